-- What a set of labels holds in the code: an array of four, in use as far as the size says, with 0 past it.
use Rattle.std.specs.Prelude.{◌≡◌, ◌≤◌, ℕ, List, length, take}
use Rattle.std.proofs.Common.{sym, ap, subst, length-take-le}
use Rattle.search.specs.Sets.{four_of}
use Rattle.search.specs.declared.LabelSet.TheInside.{Inside}

abbrev pub labels_of : Inside → List ℕ
labels_of s = take s.size s.labels

pub record Padded (s : Inside) : Type 0 where
  pub few : s.size ≤ 4
  pub rest : s.labels ≡ four_of (labels_of s)

abbrev pub padded_of : List ℕ → Inside
padded_of xs = record { size = length xs; labels = four_of xs }

-- the array is known from the labels
pub padded-back : (s : Inside) → Padded s → padded_of (labels_of s) ≡ s
padded-back s p i = record {
  size = length-take-le s.size s.labels (subst (λ (n : ℕ). s.size ≤ n) (sym (ap length p.rest)) p.few) i;
  labels = sym p.rest i;
}
