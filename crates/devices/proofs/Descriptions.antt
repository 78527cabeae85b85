-- What a text describes:
--   described-proper    the problem of an accepted text is proper
--   refusal-small, refusal-some    a refusal's number and place are small, and its number is not 0
--   table-text, circuit-text    by the word of the first line; so a text whose first word is not `table` is what document 01 makes of it
use mathlib.Core.Path.{◌≡◌, refl, subst}
use mathlib.Core.Bool.{Bool, true, false, cond}
use mathlib.Core.List.{List}
use mathlib.Core.Logic.{◌⊎◌, inl, inr, ⊎_elim}
use Prim.Native.Nat.{ℕ, ◌<◌, ◌≤◌}
use native.Mathlib.Omega.{arith}
use Rattle.netlist.specs.Parsing.{Parse, accepted, rejected, parse_of}
use Rattle.netlist.proofs.Acceptance.{well-formed}
use Rattle.netlist.proofs.Refusals.{text-refused}
use Rattle.tables.specs.TableLines.{is_table}
use Rattle.tables.specs.TableParsing.{TableParse, accepted_table, rejected_table, table_of}
use Rattle.netlist.specs.Places.{CircuitLineNumber}
use Rattle.tables.specs.TablePlaces.{TableLineNumber}
use Rattle.tables.proofs.TableAcceptance.{table-right}
use Rattle.tables.proofs.TableRefusals.{table-refused}
use Rattle.devices.specs.Describing.{Description, described, refused_at, of_circuit, of_table, description_of}
use Rattle.devices.specs.Problems.{Problem, Proper}
use Rattle.devices.proofs.ProblemRows.{circuit-proper, table-proper}

-- what holds of the problem, where there is one, and of a refusal's number and place
abbrev Right : Description → Type 0
Right (described p) = Proper p
Right (refused_at number place) = (1 ≤ number) × (number < 100) × (place < 1000)

circuit-right : (text : List ℕ) (q : Parse) → parse_of text ≡ q → Right (of_circuit q)
circuit-right text (accepted n) e = circuit-proper n (well-formed text n e)
circuit-right text (rejected number place) e =
    ⊎_elim (λ one. (omega (arith, one.0), omega (arith, one.0), omega (arith, one.1)))
    (λ line. let n = small line.number_is in (n.0, n.1, omega (arith, line.place-high))) (text-refused text number place e)
  where
    small : (number ≡ 7) ⊎ CircuitLineNumber number → (1 ≤ number) × (number < 100)
    small (inl e) = (omega arith, omega arith)
    small (inr (inl s)) = (omega (arith, s.0), omega (arith, s.1))
    small (inr (inr e)) = (omega arith, omega arith)

table-right-too : (text : List ℕ) (q : TableParse) → table_of text ≡ q → Right (of_table q)
table-right-too text (accepted_table t) e = table-proper t (table-right text t e)
table-right-too text (rejected_table number place) e =
    ⊎_elim (λ one. (omega (arith, one.0), omega (arith, one.0), omega (arith, one.1)))
    (λ line. let n = small line.2 in (n.0, n.1, omega (arith, line.1))) (table-refused text number place e)
  where
    small : (number ≡ 7) ⊎ TableLineNumber number place → (1 ≤ number) × (number < 100)
    small (inl e) = (omega (arith, e), omega (arith, e))
    small (inr (inl e)) = (omega (arith, e), omega (arith, e))
    small (inr (inr (inl e))) = (omega (arith, e), omega (arith, e))
    small (inr (inr (inr (inl e)))) = (omega (arith, e), omega (arith, e))
    small (inr (inr (inr (inr (inl e))))) = (omega (arith, e), omega (arith, e))
    small (inr (inr (inr (inr (inr (inl e)))))) = (omega (arith, e.0), omega (arith, e.0))
    small (inr (inr (inr (inr (inr (inr e)))))) = (omega (arith, e), omega (arith, e))

right : (text : List ℕ) → Right (description_of text)
unfolding description_of
right text = go (is_table text)
  where
    go : (b : Bool) → Right (cond b (of_table (table_of text)) (of_circuit (parse_of text)))
    go true = table-right-too text (table_of text) refl
    go false = circuit-right text (parse_of text) refl

pub described-proper : (text : List ℕ) (p : Problem) → description_of text ≡ described p → Proper p
described-proper text p e = subst Right e (right text)

pub refusal-small : (text : List ℕ) (number place : ℕ) → description_of text ≡ refused_at number place → (1 ≤ number) × (number < 100) × (place < 1000)
refusal-small text number place e = subst Right e (right text)

pub refusal-some : (text : List ℕ) (number place : ℕ) → description_of text ≡ refused_at number place → number ≡ 0 → ⊥
refusal-some text number place e z = omega (arith, (refusal-small text number place e).0, z)

-- by the word of the first line

pub table-text : (text : List ℕ) → is_table text ≡ true → description_of text ≡ of_table (table_of text)
unfolding description_of
table-text text e = rw e

pub circuit-text : (text : List ℕ) → is_table text ≡ false → description_of text ≡ of_circuit (parse_of text)
unfolding description_of
circuit-text text e = rw e
