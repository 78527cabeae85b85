-- A loop that makes the column of a gate, whatever the number of lines that the gate reads:
--   no_gate_bits, gate-bit-more, bits-all    the bits that are read, one after the other
--   case-of                        their number is one of the kind's cases
--   making-turn                      one turn over the rows
use mathlib.Core.Path.{◌≡◌, refl, sym, ap, ap₂, ◌∙◌}
use mathlib.Core.Bool.{Bool}
use mathlib.Core.List.{List, [], ◌∷◌, ◌++◌}
use Prim.Native.Nat.{ℕ, ◌+◌, ◌*◌, ◌^◌, ◌≤◌, ◌<◌}
use native.Mathlib.Numerals.{add-one}
use native.Mathlib.Omega.{arith}
use lib.ListN.{length, set, get_or, take}
use lib.Seq.{take-length}
use lib.Pow.{pow_mono, pow_pos}
use Rattle.std.proofs.lemmas.List.{take_more, map-append}
use Rattle.integer.proofs.Halves.{double}
use Rattle.kinds.specs.declared.Kind.{Kind}
use Rattle.gates.specs.Gates.{gate_value, bits_to, bits_of, CaseOf}
use Rattle.columns.specs.Steps.{shown_at, seen_as, Columned}
use Rattle.columns.specs.declared.Seen.{Seen}
use Rattle.columns.proofs.Making.{column-turn, column-ahead}
use Rattle.evaluation.specs.GateRules.{shown_on, gate_rule, FitsKind}

-- the bits of the first k lines, behind a leading 1
pub record BitsRead (values : List Bool) (lines : List ℕ) (x k bits : ℕ) : Type 0 where
  pub bits-are : bits_of bits ≡ shown_on values (take k lines) x
  pub low : 2 ^ k ≤ bits
  pub high : bits < 2 ^ (k + 1)

module _ (values : List Bool) (lines : List ℕ) (x : ℕ) where
  pub no_gate_bits : BitsRead values lines x 0 1
  unfolding bits_of bits_to
  no_gate_bits = record { bits-are = refl; low = omega arith; high = omega arith }

  twice : (k : ℕ) → 2 ^ (k + 1) ≡ 2 ^ k + 2 ^ k
  twice k = ap (λ (j : ℕ). 2 ^ j) (add-one k) ∙ double k

  pub few_bits : (k bits n : ℕ) → BitsRead values lines x k bits → k < n → n ≤ 4 → (1 ≤ bits) × (bits < 16)
  few_bits k bits n r less few =
      let room : k + 1 ≤ 4 = omega arith in
      (omega (arith, r.low, pow_pos k), omega (arith, r.high, pow_mono room))

  pub gate-bit-more : (k bits more : ℕ) → BitsRead values lines x k bits → k < length lines → bits_of more ≡ bits_of bits ++ (shown_at values (get_or lines k 0) x ∷ []) → bits + bits ≤ more
      → more ≤ bits + bits + 1 → BitsRead values lines x (k + 1) more
  gate-bit-more k bits more r inside reads low high =
      record {
        bits-are =
            reads ∙ ap (λ (l : List Bool). l ++ (shown_at values (get_or lines k 0) x ∷ [])) r.bits-are
            ∙ sym (map-append (λ line. shown_at values line x) (take k lines) (get_or lines k 0 ∷ []))
            ∙ ap (λ (some : List ℕ). shown_on values some x) (sym (take_more lines k 0 inside));
        low = omega (arith, low, r.low, twice k);
        high = omega (arith, high, r.high, twice k, twice (k + 1));
      }

  pub bits-all : (n bits : ℕ) {k : ℕ} → length lines ≡ n → k ≡ n → BitsRead values lines x k bits → (bits_of bits ≡ shown_on values lines x) × (2 ^ n ≤ bits) × (bits < 2 ^ (n + 1))
  bits-all n bits {k} long all r =
      (r.bits-are ∙ ap (λ (some : List ℕ). shown_on values some x) (ap (λ (j : ℕ). take j lines) (all ∙ sym long) ∙ take-length lines), rw (sym all) r.low, rw (sym all) r.high)

pub case-of : (kind : Kind) (count bits : ℕ) → FitsKind kind count → 2 ^ count ≤ bits → bits < 2 ^ (count + 1) → CaseOf kind bits
case-of kind count bits fits low high =
    record {
      one = λ is. let alone = fits.one is in let lone : count + 1 ≤ 2 = omega arith in (omega (arith, low, pow_mono fits.low), omega (arith, high, pow_mono lone));
      more = λ other. let few : count + 1 ≤ 5 = omega (arith, fits.high) in (omega (arith, low, pow_mono (fits.more other)), omega (arith, high, pow_mono few));
    }

module _ (before : List Bool) (s : Seen) (kind : Kind) (lines : List ℕ) (line : ℕ) where
  module _ {now : List Bool} (x : ℕ) (made : Columned before now line x (gate_rule before s kind lines)) where
    -- a turn reads values that are as they were
    ahead : (few : x < 256) (some : List ℕ) → shown_on now some x ≡ shown_on before some x
    ahead few [] = refl
    ahead few (a ∷ some) = ap₂ (λ (v : Bool) (l : List Bool). v ∷ l) (column-ahead before line (gate_rule before s kind lines) x made a few) (ahead few some)

    pub making-turn : x < 256 → line * 256 + x < length now → (bits : ℕ) {v z : Bool} → bits_of bits ≡ shown_on now lines x → v ≡ gate_value kind (bits_of bits) → z ≡ seen_as s v
        → Columned before (set now (line * 256 + x) z) line (x + 1) (gate_rule before s kind lines)
    making-turn few room bits {v} {z} read valued seen =
        column-turn before line (gate_rule before s kind lines) x made z room (seen ∙ ap (seen_as s) (valued ∙ ap (gate_value kind) (read ∙ ahead few lines)))
