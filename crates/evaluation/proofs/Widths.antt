-- How many lines a right gate reads, and which kind it then is:
--   reads-one .. reads-four    by which of B, C and D is the first that is not there
--   lines-there                the same, of a gate in the code
--   reads-below                they are below its own line
--   map_below                  rules that agree below a number give the same of numbers below it
--   alone-not                  with no B it is a `not`
--   column-read, column-alone    a column made for the lines that are there is the gate's, and one made for A alone is that of a `not`
use mathlib.Core.Path.{◌≡◌, refl, sym, ap, ap₂, ◌∙◌}
use mathlib.Core.Bool.{Bool}
use mathlib.Core.List.{List, [], ◌∷◌, map}
use mathlib.Core.Logic.{◌⊎◌, inl, inr}
use Rattle.std.specs.Prelude.{Option, Some, None}
use Prim.Native.Nat.{ℕ, zero, suc, ◌<◌, ◌≤◌}
use native.Mathlib.Omega.{arith}
use Rattle.integer.specs.ListTests.{Below}
use Rattle.kinds.specs.declared.Kind.{Kind}
use Rattle.kinds.specs.declared.Kind.TheVariants.{Not}
use Rattle.columns.specs.Steps.{Columned}
use Rattle.columns.specs.declared.Seen.{Seen}
use Rattle.gate_lines.specs.GateItems.{Gate, up_to_none, lines_read, SecondRight, GateRight}
use Rattle.gate_lines.specs.declared.Gate.TheInside.{Inside}
use Rattle.gate_lines.specs.LinesThere.{line_or_none, IsLine}
use Rattle.gate_lines.proofs.GatesWritten.{second-some, kept-below}
use Rattle.evaluation.specs.GateRules.{gate_rule}

stops : (n : ℕ) (l : List ℕ) → n ≡ 0 → up_to_none (n ∷ l) ≡ []
unfolding up_to_none
stops n l e = ap (λ (k : ℕ). up_to_none (k ∷ l)) e

goes_on : (n : ℕ) (l : List ℕ) {m : List ℕ} → (n ≡ 0 → ⊥) → up_to_none l ≡ m → up_to_none (n ∷ l) ≡ n ∷ m
unfolding up_to_none
goes_on zero l some e = absurd (some refl)
goes_on (suc n) l some e = ap (λ (m : List ℕ). suc n ∷ m) e

module _ (g : Gate) where
  after_first : {l : List ℕ} → up_to_none (g.b ∷ g.c ∷ g.d ∷ []) ≡ l → lines_read g ≡ g.a ∷ l
  unfolding lines_read
  after_first e = ap (λ (l : List ℕ). g.a ∷ l) e

  pub reads-one : g.b ≡ 0 → lines_read g ≡ g.a ∷ []
  reads-one e = after_first (stops g.b (g.c ∷ g.d ∷ []) e)

  module _ (second : g.b ≡ 0 → ⊥) where
    pub reads_two : g.c ≡ 0 → lines_read g ≡ g.a ∷ g.b ∷ []
    reads_two e = after_first (goes_on g.b (g.c ∷ g.d ∷ []) second (stops g.c (g.d ∷ []) e))

    module _ (third : g.c ≡ 0 → ⊥) where
      pub reads_three : g.d ≡ 0 → lines_read g ≡ g.a ∷ g.b ∷ g.c ∷ []
      reads_three e = after_first (goes_on g.b (g.c ∷ g.d ∷ []) second (goes_on g.c (g.d ∷ []) third (stops g.d [] e)))

      pub reads-four : (g.d ≡ 0 → ⊥) → lines_read g ≡ g.a ∷ g.b ∷ g.c ∷ g.d ∷ []
      unfolding up_to_none
      reads-four some = after_first (goes_on g.b (g.c ∷ g.d ∷ []) second (goes_on g.c (g.d ∷ []) third (goes_on g.d [] some refl)))

-- of B, C and D in the code, those up to the first that is not there
abbrev lines_to : Option ℕ → Option ℕ → Option ℕ → List ℕ
lines_to None c d = []
lines_to (Some b) None d = b ∷ []
lines_to (Some b) (Some c) None = b ∷ c ∷ []
lines_to (Some b) (Some c) (Some d) = b ∷ c ∷ d ∷ []

lines-there : (kind : Kind) (a : ℕ) (b c d : Option ℕ) → IsLine b × IsLine c × IsLine d
    → lines_read (record { kind = kind; a = a; b = line_or_none b; c = line_or_none c; d = line_or_none d }) ≡ a ∷ lines_to b c d
lines-there kind a None c d are = reads-one _ refl
lines-there kind a (Some b) None d are = reads_two _ are.0 refl
lines-there kind a (Some b) (Some c) None are = reads_three _ are.0 are.1 refl
lines-there kind a (Some b) (Some c) (Some d) are = reads-four _ are.0 are.1 are.2

pub reads-below : (own : ℕ) (g : Gate) → GateRight own g → Below own (lines_read g)
unfolding lines_read
reads-below own g r zero k = r.first_below
reads-below own g r (suc i) k = kept-below own (g.b ∷ g.c ∷ g.d ∷ []) each i (omega arith)
  where
    each : Below own (g.b ∷ g.c ∷ g.d ∷ [])
    each zero h = r.second_below
    each (suc zero) h = r.third-below
    each (suc (suc zero)) h = r.fourth-below
    each (suc (suc (suc j))) h = absurd (omega arith)

pub map_below : (n : ℕ) (p q : ℕ → Bool) (l : List ℕ) → ((i : ℕ) → i < n → p i ≡ q i) → Below n l → map p l ≡ map q l
map_below n p q [] same h = refl
map_below n p q (i ∷ l) same h = ap₂ (λ (b : Bool) (m : List Bool). b ∷ m) (same i (h 0 (omega arith))) (map_below n p q l same (λ j k. h (suc j) (omega arith)))

pub alone-not : (kind : Kind) (b : ℕ) → SecondRight kind b → b ≡ 0 → kind ≡ Not
alone-not kind b r none = go (second-some kind b r)
  where
    go : (kind ≡ Not) ⊎ ((kind ≡ Not → ⊥) × (1 ≤ b)) → kind ≡ Not
    go (inl is) = is
    go (inr other) = absurd (omega (arith, other.1))

-- of a gate, and its fields in the code
module _ (before after : List Bool) (s : Seen) (line n : ℕ) {g : Gate} (i : Inside) (are : IsLine i.b × IsLine i.c × IsLine i.d)
    (is : record { kind = i.kind; a = i.a; b = line_or_none i.b; c = line_or_none i.c; d = line_or_none i.d } ≡ g) where
  pub column-read : Columned before after line n (gate_rule before s i.kind (i.a ∷ lines_to i.b i.c i.d)) → Columned before after line n (gate_rule before s g.kind (lines_read g))
  column-read made = rw (← is, lines-there i.kind i.a i.b i.c i.d are) made

  pub column-alone : SecondRight g.kind g.b → i.b ≡ None → Columned before after line n (gate_rule before s Not (i.a ∷ [])) → Columned before after line n (gate_rule before s g.kind (lines_read g))
  column-alone second none made = column-read (rw (none, alone) made)
    where
      alone : i.kind ≡ Not
      alone = ap (λ (h : Gate). h.kind) is ∙ alone-not g.kind g.b second (sym (ap (λ (h : Gate). h.b) is) ∙ ap line_or_none none)
