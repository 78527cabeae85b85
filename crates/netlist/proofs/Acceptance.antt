-- What acceptance means:
--   well-formed      an accepted circuit is within the ranges, its gates read lower lines, its outputs and faults name lines that exist
--   BodyRead, text-read-through    how an accepted text is read, stage by stage
--   body-well-formed    so is the circuit that the lines after a right first line give
--   head-fits, gate-right, output-right    what the tests of each line show
use mathlib.Core.Path.{◌≡◌, refl, sym, ap, ◌∙◌, subst}
use mathlib.Core.Bool.{Bool, true, false, ◌&&◌, false≢true}
use mathlib.Core.List.{List, [], ◌∷◌}
use Prim.Native.Nat.{ℕ, ◌+◌, ◌<◌, ◌≤◌}
use native.Mathlib.Nat.{lt_of_not-le}
use native.Mathlib.Decide.{dec_le}
use native.Mathlib.Omega.{arith}
use lib.Dec.{leb, ltb, lit≤}
use lib.IntN.{nat_abs}
use lib.ListN.{length}
use borrow.Author.Tests.{ltb-true, leb-true, eqb-true, lt-ltb}
use Rattle.text.specs.Text.{before, after, has_byte, line_end, field_of, field_count}
use Rattle.integer.proofs.Bools.{both}
use Rattle.statements.specs.Items.{no_output, sound}
use Rattle.gate_lines.specs.GateItems.{Gate, no_gate, SecondRight, GateRight}
use Rattle.fields.specs.Fields.{value_at, signed_value_at, fits, in_range}
use Rattle.statements.specs.Lines.{is_head, head_fits, head_refusal, head_of, is_output, output_fits, output_refusal, output_of, fault_line_of}
use Rattle.gate_lines.specs.GateLines.{second_fits, added_fits, is_gate, gate_fits, reads_below, gate_refusal, gate_of}
use Rattle.kinds.specs.Kinds.{kind_of}
use Rattle.statements.specs.Items.{Fault}
use Rattle.statements.specs.declared.Head.{Head}
use Rattle.kinds.specs.declared.Kind.{Kind}
use Rattle.kinds.specs.declared.Kind.TheVariants.{And, Or, Nand, Nor, Xor, Xnor, Not}
use Rattle.statements.specs.declared.Output.{Output}
use Rattle.fields.proofs.Chains.{unless-passed}
use Rattle.fields.proofs.PlainLines.{range, fits-range, absent}
use Rattle.gate_lines.proofs.GateFormsMeant.{gate-formed}
use Rattle.gate_lines.proofs.GatesWritten.{added-there}
use Rattle.sections.proofs.BridgesWritten.{fault-right}
use Rattle.sections.proofs.LinesDue.{text-answered}
use Rattle.sections.proofs.LinesRead.{lines-said}
use Rattle.sections.specs.Sections.{Read, items, line_refused, line_refusal}
use Rattle.sections.specs.FaultLines.{nth_fault_refusal}
use Rattle.netlist.specs.Circuits.{Netlist}
use Rattle.netlist.specs.Heads.{HeadRight}
use Rattle.netlist.specs.Parsing.{gates_in, outputs_in, faults_in, Parse, accepted, rejected, on_read, end_of, body_of, parse_of, nth_gate_refusal, nth_output_refusal}
use Rattle.netlist.specs.WellFormed.{OutputRight, WellFormed, top_of}

-- one line

pub head-fits : (l : List ℕ) → head_refusal l ≡ 0 → HeadRight (head_of l)
unfolding head_refusal head_fits head_of
head-fits l e =
    let a = both (((fits l 1 1 8 && fits l 2 0 48) && fits l 3 1 4) && fits l 4 1 32) (fits l 5 1 4) (unless-passed (head_fits l) 3 0 (lit≤ tt) (unless-passed (is_head l) 2 _ (lit≤ tt) e).1).0 in
    let b = both ((fits l 1 1 8 && fits l 2 0 48) && fits l 3 1 4) (fits l 4 1 32) a.0 in
    let c = both (fits l 1 1 8 && fits l 2 0 48) (fits l 3 1 4) b.0 in
    let d = both (fits l 1 1 8) (fits l 2 0 48) c.0 in
    let n = fits-range l 1 1 8 d.0 in
    let m = fits-range l 3 1 4 c.1 in
    let q = fits-range l 4 1 32 b.1 in
    let k = fits-range l 5 1 4 a.1 in
    record { inputs-low = n.0; inputs-high = n.1; gates-high = (fits-range l 2 0 48 d.1).1; outputs-low = m.0; outputs-high = m.1; faults-low = q.0; faults-high = q.1; cap-low = k.0; cap-high = k.1 }

second-right : (k : Kind) (b : ℕ) → second_fits k b ≡ true → SecondRight k b
unfolding second_fits
second-right And b e = (range b 1 56 e).0
second-right Or b e = (range b 1 56 e).0
second-right Nand b e = (range b 1 56 e).0
second-right Nor b e = (range b 1 56 e).0
second-right Xor b e = (range b 1 56 e).0
second-right Xnor b e = (range b 1 56 e).0
second-right Not b e = eqb-true b 0 e

pub gate-right : (own : ℕ) (l : List ℕ) → gate_refusal own l ≡ 0 → GateRight own (gate_of l)
unfolding gate_refusal gate_fits reads_below gate_of
gate-right own l e =
    let formed = unless-passed (is_gate l) 2 _ (lit≤ tt) e in
    let fit = unless-passed (gate_fits l) 3 _ (lit≤ tt) formed.1 in
    let below = unless-passed (reads_below own l) 4 0 (lit≤ tt) fit.1 in
    let two = fits l 2 1 56 && second_fits (kind_of (field_of l 1)) (value_at l 3) in
    let third = added_fits (leb (field_count l) 4) (value_at l 4) in
    let f = both (fits l 2 1 56) (second_fits (kind_of (field_of l 1)) (value_at l 3)) (both two third (both (two && third) (added_fits (leb (field_count l) 5) (value_at l 5)) fit.0).0).0 in
    let r = both ((ltb (value_at l 2) own && ltb (value_at l 3) own) && ltb (value_at l 4) own) (ltb (value_at l 5) own) below.0 in
    let s = both (ltb (value_at l 2) own && ltb (value_at l 3) own) (ltb (value_at l 4) own) r.0 in
    let t = both (ltb (value_at l 2) own) (ltb (value_at l 3) own) s.0 in
    record {
      first = (fits-range l 2 1 56 f.0).0;
      second = second-right (kind_of (field_of l 1)) (value_at l 3) f.1;
      no_gap = no_third (dec_le (field_count l) 4) (added-there l fit.0).0;
      not_narrow = λ is. absent l 4 (omega (arith, (gate-formed l formed.0).four-of-not is));
      first_below = ltb-true (value_at l 2) own t.0;
      second_below = ltb-true (value_at l 3) own t.1;
      third-below = ltb-true (value_at l 4) own s.1;
      fourth-below = ltb-true (value_at l 5) own r.1;
    }
  where
    no_third : Dec (field_count l ≤ 4) → (4 < field_count l → 1 ≤ value_at l 4) → value_at l 4 ≡ 0 → value_at l 5 ≡ 0
    no_third (yes none) there z = absent l 5 (omega arith)
    no_third (no some) there z = absurd (omega (arith, there (lt_of_not-le some), z))

pub output-right : (top : ℕ) (l : List ℕ) → output_refusal top l ≡ 0 → OutputRight top (output_of l)
unfolding output_refusal output_fits output_of
output-right top l e =
    let formed = unless-passed (is_output l) 2 _ (lit≤ tt) e in
    let fit = unless-passed (output_fits l) 3 _ (lit≤ tt) formed.1 in
    let exist = unless-passed (leb (value_at l 1) top) 5 0 (lit≤ tt) fit.1 in
    let f = both (fits l 1 1 56) (in_range (nat_abs (signed_value_at l 2)) 1 15) fit.0 in
    let w = range (nat_abs (signed_value_at l 2)) 1 15 f.1 in
    record { line_low = (fits-range l 1 1 56 f.0).0; line-high = leb-true (value_at l 1) top exist.0; weight-low = w.0; weight-high = w.1 }

-- the whole text

abbrev is_accepted : Parse → Bool
is_accepted (accepted n) = true
is_accepted (rejected number place) = false

abbrev netlist_in : Netlist → Parse → Netlist
netlist_in d (accepted n) = n
netlist_in d (rejected number place) = d

never : {X : Type 0} (number place : ℕ) (n : Netlist) → rejected number place ≡ accepted n → X
never number place n e = absurd (false≢true (ap is_accepted e))

-- the lines after an accepted text's first are read, stage by stage, and nothing is left
pub record BodyRead (h : Head) (rest : List ℕ) (n : Netlist) : Type 0 where
  pub after-gates : List ℕ
  pub after-outputs : List ℕ
  pub gates-read : gates_in h rest ≡ items n.gates after-gates
  pub outputs-read : outputs_in h after-gates ≡ items n.outputs after-outputs
  pub faults-read : faults_in h after-outputs ≡ items n.faults []
  pub inputs_are : n.inputs ≡ h.inputs
  pub cap-is : n.cap ≡ h.cap

body-read-through : (h : Head) (rest : List ℕ) (n : Netlist) → body_of h rest ≡ accepted n → BodyRead h rest n
unfolding body_of end_of
body-read-through h rest n = from-gates (gates_in h rest) refl
  where
    from_end : (gates : List Gate) (outputs : List Output) (faults : List Fault) (a b end : List ℕ) → gates_in h rest ≡ items gates a → outputs_in h a ≡ items outputs b → faults_in h b ≡ items faults end
        → end_of h gates outputs faults end ≡ accepted n → BodyRead h rest n
    from_end gates outputs faults a b [] x y z e =
        let m : Netlist = record { inputs = h.inputs; gates = gates; outputs = outputs; faults = faults; cap = h.cap } in
        subst (BodyRead h rest) (ap (netlist_in m) e)
        record { after-gates = a; after-outputs = b; gates-read = x; outputs-read = y; faults-read = z; inputs_are = refl; cap-is = refl }
    from_end gates outputs faults a b (u ∷ end) x y z e = never 7 (h.gates + h.outputs + h.faults + 2) n (sym (rw (lt-ltb 0 (length (u ∷ end)) (omega arith))) ∙ e)

    from-faults : (gates : List Gate) (outputs : List Output) (a b : List ℕ) → gates_in h rest ≡ items gates a → outputs_in h a ≡ items outputs b → (r : Read Fault) → faults_in h b ≡ r
        → on_read r (end_of h gates outputs) ≡ accepted n → BodyRead h rest n
    from-faults gates outputs a b x y (items faults end) z e = from_end gates outputs faults a b end x y z e
    from-faults gates outputs a b x y (line_refused number place) z e = never number place n e

    from-outputs : (gates : List Gate) (a : List ℕ) → gates_in h rest ≡ items gates a → (r : Read Output) → outputs_in h a ≡ r
        → on_read r (λ outputs rest. on_read (faults_in h rest) (end_of h gates outputs)) ≡ accepted n → BodyRead h rest n
    from-outputs gates a x (items outputs b) y e = from-faults gates outputs a b x y (faults_in h b) refl e
    from-outputs gates a x (line_refused number place) y e = never number place n e

    from-gates : (r : Read Gate) → gates_in h rest ≡ r → on_read r (λ gates rest. on_read (outputs_in h rest) (λ outputs rest. on_read (faults_in h rest) (end_of h gates outputs))) ≡ accepted n → BodyRead h rest n
    from-gates (items gates a) x e = from-outputs gates a x (outputs_in h a) refl e
    from-gates (line_refused number place) x e = never number place n e

body-right : (h : Head) → HeadRight h → (rest : List ℕ) (n : Netlist) → BodyRead h rest n → WellFormed n
unfolding gates_in outputs_in faults_in
body-right h right rest n b =
    let top = h.inputs + h.gates in
    let g = lines-said (nth_gate_refusal h.inputs) gate_of no_gate h.gates 2 rest [] n.gates b.after-gates (λ j k. absurd (omega arith)) b.gates-read in
    let o = lines-said (nth_output_refusal top) output_of no_output h.outputs (h.gates + 2) b.after-gates [] n.outputs b.after-outputs (λ j k. absurd (omega arith)) b.outputs-read in
    let f = lines-said (nth_fault_refusal h.inputs top) fault_line_of sound h.faults (h.gates + h.outputs + 2) b.after-outputs [] n.faults [] (λ j k. absurd (omega arith)) b.faults-read in
    let same : top ≡ top_of n = omega (arith, g.1, b.inputs_are) in
    record {
      inputs-low = omega (arith, right.inputs-low, b.inputs_are);
      inputs-high = omega (arith, right.inputs-high, b.inputs_are);
      gates-high = omega (arith, right.gates-high, g.1);
      outputs-low = omega (arith, right.outputs-low, o.1);
      outputs-high = omega (arith, right.outputs-high, o.1);
      faults-low = omega (arith, right.faults-low, f.1);
      faults-high = omega (arith, right.faults-high, f.1);
      cap-low = omega (arith, right.cap-low, b.cap-is);
      cap-high = omega (arith, right.cap-high, b.cap-is);
      gates-right = λ j k. let s = g.0 j k in rw (b.inputs_are, s.is) (gate-right (h.inputs + j + 1) s.line s.passes);
      outputs-right = λ j k. let s = o.0 j k in rw (← same, s.is) (output-right top s.line s.passes);
      faults-right = λ j k. let s = f.0 j k in rw (← same, b.inputs_are, s.is) (fault-right h.inputs top s.line s.passes);
    }

-- what holds of the circuit that the lines after a right first line give
pub body-well-formed : (h : Head) → HeadRight h → (rest : List ℕ) (n : Netlist) → accepted n ≡ body_of h rest → WellFormed n
body-well-formed h right rest n e = body-right h right rest n (body-read-through h rest n (sym e))

-- the first line passes, and the lines after it are read
pub text-read-through : (text : List ℕ) (n : Netlist) → parse_of text ≡ accepted n
    → (line_refusal head_refusal text ≡ 0) × BodyRead (head_of (before line_end text)) (after line_end text) n
unfolding parse_of
text-read-through text n =
    text-answered (λ r. r ≡ accepted n → (number ≡ 0) × BodyRead head (after line_end text) n) number text (λ b. never 1 0 n) (λ few z q. (z, body-read-through head (after line_end text) n q))
    (λ few s. never number 1 n)
  where
    head : Head
    head = head_of (before line_end text)

    number : ℕ
    number = line_refusal head_refusal text

pub well-formed : (text : List ℕ) (n : Netlist) → parse_of text ≡ accepted n → WellFormed n
well-formed text n e = let t = text-read-through text n e in body-right (head_of (before line_end text)) (head-fits (before line_end text) (unless-passed (has_byte line_end text) 2 _ (lit≤ tt) t.0).1) (after line_end text) n t.1
