-- The fault of the definitions that a fault of the code stands for, and the way back. Lines and inputs count from 1 (document 01, "The circuit text"), so 0
-- names none: a pair or a bridge that is not there is `free` or `no_bridge`. What no text states, as pairs beside a bridge, is a fault of the definitions too.
use mathlib.Core.Path.{◌∙◌, ap}
use Rattle.std.specs.Prelude.{Bool, true, false, cond, not, ◌&&◌, eqb, Option, Some, None, refl, ◌≡◌, ⊤}
use Rattle.statements.specs.Items.{Fault, free, no_bridge, sound}
use Rattle.statements.specs.declared.FaultKind.{FaultKind}
use Rattle.statements.specs.declared.FaultKind.TheVariants.{Sound, Stuck, Bridged, Unstated}
use Rattle.statements.specs.declared.Pair.{Pair}

abbrev pub pair_or_free : Option Pair → Pair
pair_or_free None = free
pair_or_free (Some p) = p

abbrev pub fault_of_kind : FaultKind → Fault
fault_of_kind Sound = sound
fault_of_kind (Stuck a b c) = record { first = a; second = pair_or_free b; third = pair_or_free c; bridge = no_bridge }
fault_of_kind (Bridged b) = record { first = free; second = free; third = free; bridge = b }
fault_of_kind (Unstated a b c d) = record { first = a; second = b; third = c; bridge = d }

abbrev pub is_free : Pair → Bool
is_free p = eqb p.line 0 && not p.value

abbrev pub free_or_named : Pair → Bool
free_or_named p = not (eqb p.line 0 && p.value)

abbrev pub all_free : Fault → Bool
all_free f = is_free f.first && is_free f.second && is_free f.third

-- of stuck lines after the first
abbrev pub others_stated : Fault → Bool
others_stated f = free_or_named f.second && free_or_named f.third

-- whether another case than `Unstated` stands for the fault: `Bridged` where its bridge names a first input, else `Stuck` or `Sound`
abbrev pub stated : Fault → Bool
stated f = cond (eqb f.bridge.first 0) (eqb f.bridge.second 0 && cond (eqb f.first.line 0) (all_free f) (others_stated f)) (not (eqb f.bridge.second 0) && all_free f)

-- no line that is there is 0
abbrev pub PairNamed : Option Pair → Type 0
PairNamed None = ⊤
PairNamed (Some p) = eqb p.line 0 ≡ false

abbrev pub FaultNamed : FaultKind → Type 0
FaultNamed Sound = ⊤
FaultNamed (Stuck a b c) = PairNamed (Some a) × PairNamed b × PairNamed c
FaultNamed (Bridged b) = (eqb b.first 0 ≡ false) × (eqb b.second 0 ≡ false)
FaultNamed (Unstated a b c d) = stated (record { first = a; second = b; third = c; bridge = d }) ≡ false

abbrev pub pair_there : Pair → Option Pair
pair_there p = cond (eqb p.line 0) None (Some p)

abbrev pub stuck_kind : Fault → FaultKind
stuck_kind f = Stuck f.first (pair_there f.second) (pair_there f.third)

abbrev pub kind_of_fault : Fault → FaultKind
kind_of_fault f = cond (stated f) (cond (eqb f.bridge.first 0) (cond (eqb f.first.line 0) Sound (stuck_kind f)) (Bridged f.bridge)) (Unstated f.first f.second f.third f.bridge)

pub pair_back : (p : Option Pair) → PairNamed p → pair_there (pair_or_free p) ≡ p
pair_back None named = refl
pair_back (Some p) named = ap (λ none. cond none None (Some p)) named

pair_stated : (p : Option Pair) → PairNamed p → free_or_named (pair_or_free p) ≡ true
pair_stated None named = refl
pair_stated (Some p) named = ap (λ none. not (none && p.value)) named

stuck_stated : (a : Pair) (b c : Option Pair) → PairNamed b → PairNamed c → others_stated (fault_of_kind (Stuck a b c)) ≡ true
stuck_stated a b c second third = ap (λ told. told && free_or_named (pair_or_free c)) (pair_stated b second) ∙ pair_stated c third

pub kind_back : (k : FaultKind) → FaultNamed k → kind_of_fault (fault_of_kind k) ≡ k
kind_back Sound named = refl
kind_back (Stuck a b c) named =
    let f = fault_of_kind (Stuck a b c) in
    let other = Unstated a f.second f.third f.bridge in
    ap (λ none. cond (cond none (all_free f) (others_stated f)) (cond none Sound (stuck_kind f)) other) named.0
    ∙ ap (λ told. cond told (stuck_kind f) other) (stuck_stated a b c named.1 named.2)
    ∙ ap (λ second. Stuck a second (pair_there (pair_or_free c))) (pair_back b named.1)
    ∙ ap (λ third. Stuck a b third) (pair_back c named.2)
kind_back (Bridged b) named =
    let other = Unstated free free free b in
    ap (λ none. cond (cond none (eqb b.second 0 && true) (not (eqb b.second 0) && true)) (cond none Sound (Bridged b)) other) named.0
    ∙ ap (λ none. cond (not none && true) (Bridged b) other) named.1
kind_back (Unstated a b c d) named =
    let f = fault_of_kind (Unstated a b c d) in
    ap (λ told. cond told (cond (eqb d.first 0) (cond (eqb a.line 0) Sound (stuck_kind f)) (Bridged d)) (Unstated a b c d)) named
