-- The lines of a report, one at a time:
--   refused-length, refusal-length, plan-length, label-length, fault-length    how long a line is
--   refused-read, refusal-read, plan-read, label-read, FaultRead, fault-read    a line with its numbers as the code reads them
--   at-spectrum, label-lines-same, covering-same    lines and first covering labels, read off the spectra
--   covering-here, covering-later, covering-none    a search for the first covering label
--   spectrum-left    what the spectrum leaves in a buffer of its size
--   label-line-length, fault-line-length    how long the lines of a problem are
--   no-label, label-fits, label-more, no-fault, fault-fits, fault-more    writing all labels' and all faults' lines, one more at a time
use mathlib.Core.Path.{◌≡◌, refl, sym, ap, ap₂, ◌∙◌, subst}
use mathlib.Core.Bool.{Bool, true, false}
use mathlib.Core.List.{List, [], ◌∷◌, ◌++◌, append-nil}
use Prim.Native.Nat.{ℕ, suc, ◌+◌, ◌*◌, ◌^◌, ◌<◌, ◌≤◌}
use native.Mathlib.Numerals.{add-one}
use native.Mathlib.Omega.{arith}
use lib.Dec.{ltb}
use lib.IntN.{ℤ, pos, nat_abs}
use lib.ListN.{length, get_or, get_or-eq_default, drop_of_length-le}
use lib.Pow.{pow_mono, pow_pos}
use mir.Syntax.{w32}
use mir.Val.{to_z, of_z, SFits}
use mir.ValLaws.{to_z-of_z}
use borrow.Author.Count.{below_more}
use borrow.Author.Tests.{le-ltb, ltb-true, ltb-false}
use Rattle.refusals.specs.declared.Flaw.{Flaw}
use Rattle.refusals.specs.declared.Flaw.TheVariants.{Malformed, OutOfRange as ValueOutOfRange, ReadsAhead, NoSuchLine, NotRising, NotAMark, NotInputs}
use Rattle.refusals.specs.declared.Refusal.{Refusal}
use Rattle.refusals.specs.declared.Refusal.TheVariants.{TextTooLong, Line, TextGoesOn, ShortBuffer, WrongLength, OutOfRange, Indivisible, WrongArgument, Silent, Hidden, NoSet}
use Rattle.refusals.specs.Refusals.{flaw_number, refusal_number, refusal_place}
use Rattle.screen.specs.Answers.{Answer, Done}
use Rattle.cover.specs.Cover.{covers, fault_rows}
use Rattle.integer.specs.First.{first_where}
use Rattle.integer.specs.Tab.{nth, Within}
use Rattle.integer.specs.Differ.{differ}
use Rattle.integer.specs.ListTests.{Below}
use Rattle.integer.proofs.Firsts.{first-ext, first-hit, first-none}
use Rattle.integer.proofs.Machine.{reads-back}
use Rattle.integer.proofs.Differing.{ne-differ, eq-differ}
use Rattle.devices.specs.Problems.{Problem, rows_at, Proper}
use Rattle.statements.specs.Lines.{fault_word}
use Rattle.writing.specs.Writing.{placed, gather, line_of}
use Rattle.writing.proofs.Writings.{natural-length, integer-length, gather_ext, line-one, line-two, line-three, WrittenSoFar, none_written, text-more, all_fit, next_fits}
use Rattle.results.specs.Results.{leaves}
use Rattle.transform.specs.Spectrum.{coefficient_of, spectrum_of}
use Rattle.transform.proofs.Spectra.{length-spectrum, nth-spectrum}
use Rattle.circuit.specs.CircuitCall.{room_answer}
use Rattle.circuit.proofs.CircuitLaws.{fault-spectrum-bounded}
use Rattle.report_lines.specs.ReportLines.{plan_word, label_word, refused_word, plan_line, refused_line, label_line, label_covers, covering_label, fault_report_line}
use Rattle.report_lines.specs.Steps.{spectral_label_line, differ_at, spectral_covering}

-- ---- how long lines are

-- a refusal's number has at most two digits
pub refusal_number_small : (r : Refusal) → refusal_number r < 100
refusal_number_small TextTooLong = omega arith
refusal_number_small (Line flaw line) = of-flaw flaw
  where
    of-flaw : (f : Flaw) → flaw_number f < 100
    of-flaw Malformed = omega arith
    of-flaw ValueOutOfRange = omega arith
    of-flaw ReadsAhead = omega arith
    of-flaw NoSuchLine = omega arith
    of-flaw NotRising = omega arith
    of-flaw NotAMark = omega arith
    of-flaw NotInputs = omega arith
refusal_number_small (TextGoesOn line) = omega arith
refusal_number_small ShortBuffer = omega arith
refusal_number_small WrongLength = omega arith
refusal_number_small (OutOfRange index) = omega arith
refusal_number_small (Indivisible index) = omega arith
refusal_number_small WrongArgument = omega arith
refusal_number_small (Silent fault) = omega arith
refusal_number_small (Hidden fault) = omega arith
refusal_number_small NoSet = omega arith

pub refused-length : (number place : ℕ) → number < 100 → place < 1000 → length (refused_line number place) ≤ 15
unfolding refused_line
refused-length number place h k = omega (arith, line-two refused_word (pos number) (pos place), natural-length 1 number h, natural-length 2 place k)

pub plan-length : (size : ℕ) → size < 10 → length (plan_line size) ≤ 7
unfolding plan_line
plan-length size h = omega (arith, line-one plan_word (pos size), natural-length 0 size h)

pub label-length : (label : ℕ) (value : ℤ) → label < 256 → nat_abs value ≤ 15360 → length (line_of label_word (pos label ∷ value ∷ [])) ≤ 17
label-length label value h k = omega (arith, line-two label_word (pos label) value, natural-length 2 label (omega (arith, h)), integer-length 4 value (omega (arith, k)))

pub fault-length : (f label : ℕ) (value : ℤ) → f < 32 → label < 256 → nat_abs value ≤ 15360 → length (line_of fault_word (pos (suc f) ∷ pos label ∷ value ∷ [])) ≤ 20
fault-length f label value g h k =
    omega (arith, line-three fault_word (pos (suc f)) (pos label) value, natural-length 1 (suc f) (omega (arith, g)), natural-length 2 label (omega (arith, h)), integer-length 4 value (omega (arith, k)))

-- ---- coefficients, read off the spectrum

pub at-spectrum : (rows : List ℤ) (label : ℕ) → label < length rows → nth (spectrum_of rows) label ≡ coefficient_of rows label
unfolding coefficient_of
at-spectrum rows label h = nth-spectrum rows (length rows) label refl h

-- an entry of the labels, and 0 past their end
pub label-below : (n : ℕ) (labels : List ℕ) (i : ℕ) → 0 < n → Below n labels → get_or labels i 0 < n
label-below n labels i h b = go (ltb i (length labels)) refl
  where
    go : (t : Bool) → ltb i (length labels) ≡ t → get_or labels i 0 < n
    go true e = b i (ltb-true i (length labels) e)
    go false e = subst (λ (k : ℕ). k < n) (sym (get_or-eq_default labels 0 {n = i} (ltb-false i (length labels) e))) h

module _ (rows faulted : List ℤ) (labels : List ℕ) (same : length faulted ≡ length rows) (low : Below (length rows) labels) where
  pub covering-same : spectral_covering (spectrum_of rows) (spectrum_of faulted) labels ≡ covering_label rows faulted labels
  unfolding spectral_covering covering_label differ_at label_covers covers
  covering-same =
      ap (λ (i : ℕ). get_or labels i 0)
      (first-ext (differ_at (spectrum_of rows) (spectrum_of faulted) labels) (label_covers rows faulted labels) (length labels)
      (λ i h. ap₂ differ (at-spectrum rows (get_or labels i 0) (low i h)) (at-spectrum faulted (get_or labels i 0) (let k = low i h in omega (arith, k, same)))))

pub covering-below : (n : ℕ) (rows faulted : List ℤ) (labels : List ℕ) → 0 < n → Below n labels → covering_label rows faulted labels < n
unfolding covering_label
covering-below n rows faulted labels h b = label-below n labels (first_where (label_covers rows faulted labels) (length labels)) h b

-- ---- numbers as the code reads them

pub natural-bits : (n : ℕ) → n < 2 ^ 31 → to_z w32 n ≡ pos n
natural-bits n h = reads-back w32 (pos n) refl h

pub integer-read : (z : ℤ) → nat_abs z ≤ 15360 → to_z w32 (of_z w32 z) ≡ z
integer-read z h = reads-back w32 z refl (omega (arith, h))

-- a line with its numbers as read
module _ (at : ℕ) (read line out : List ℕ) (same : read ≡ line) where
  pub read-room : at + length line ≤ length out → at + length read ≤ length out
  read-room h = rw same h

  pub read-written : {end : ℕ} {now : List ℕ} → (end ≡ at + length read) × (now ≡ placed at read out) → (end ≡ at + length line) × (now ≡ placed at line out)
  read-written r = (r.0 ∙ ap (λ (l : List ℕ). at + length l) same, r.1 ∙ ap (λ (l : List ℕ). placed at l out) same)

pub refused-read : (number place : ℕ) → number < 100 → place < 1000 → line_of refused_word (to_z w32 number ∷ to_z w32 place ∷ []) ≡ refused_line number place
unfolding refused_line
refused-read number place h k = rw (natural-bits number (omega (arith, h)), natural-bits place (omega (arith, k)))

-- the line of a refusal, by what its methods give
pub refusal-read : (r : Refusal) {number place : ℕ} → refusal_place r < 1000 → number ≡ refusal_number r → place ≡ refusal_place r
    → line_of refused_word (to_z w32 number ∷ to_z w32 place ∷ []) ≡ refused_line (refusal_number r) (refusal_place r)
refusal-read r k n p = rw (n, p) (refused-read (refusal_number r) (refusal_place r) (refusal_number_small r) k)

pub refusal-length : (r : Refusal) → refusal_place r < 1000 → length (refused_line (refusal_number r) (refusal_place r)) ≤ 15
refusal-length r k = refused-length (refusal_number r) (refusal_place r) (refusal_number_small r) k

pub plan-read : (size : ℕ) → size < 10 → line_of plan_word (to_z w32 size ∷ []) ≡ plan_line size
unfolding plan_line
plan-read size h = rw (natural-bits size (omega (arith, h)))

pub label-read : (label : ℕ) (value : ℤ) → label < 256 → nat_abs value ≤ 15360
    → line_of label_word (to_z w32 label ∷ to_z w32 (of_z w32 value) ∷ []) ≡ line_of label_word (pos label ∷ value ∷ [])
label-read label value h k = ap₂ (λ (a b : ℤ). line_of label_word (a ∷ b ∷ [])) (natural-bits label (omega (arith, h))) (integer-read value k)

-- ---- the first covering label

bits-same : (a b : ℤ) → SFits w32 a → SFits w32 b → of_z w32 a ≡ of_z w32 b → a ≡ b
bits-same a b f g e = sym (to_z-of_z w32 a f) ∙ ap (to_z w32) e ∙ to_z-of_z w32 b g

module _ (sound faulted : List ℤ) (labels : List ℕ) (i : ℕ) (before : (x : ℕ) → x < i → differ_at sound faulted labels x ≡ false) where
  abbrev A : ℤ
  A = nth sound (get_or labels i 0)

  abbrev B : ℤ
  B = nth faulted (get_or labels i 0)

  pub covering-here : i < length labels → (of_z w32 A ≡ of_z w32 B → ⊥) → get_or labels i 0 ≡ spectral_covering sound faulted labels
  unfolding spectral_covering differ_at
  covering-here h n =
      ap (λ (k : ℕ). get_or labels k 0) (sym (first-hit (differ_at sound faulted labels) (length labels) i h before (ne-differ A B (λ e. n (ap (of_z w32) e)))))

  pub covering-later : SFits w32 A → SFits w32 B → of_z w32 A ≡ of_z w32 B → (x : ℕ) → x < i + 1 → differ_at sound faulted labels x ≡ false
  unfolding differ_at
  covering-later f g e = below_more (λ x. differ_at sound faulted labels x ≡ false) i before (eq-differ A B (bits-same A B f g e))

  pub covering-none : length labels ≤ i → 0 ≡ spectral_covering sound faulted labels
  unfolding spectral_covering
  covering-none h =
      let e = first-none (differ_at sound faulted labels) (length labels) (λ x l. before x (omega (arith, l, h))) in
      sym (ap (λ (k : ℕ). get_or labels k 0) e ∙ get_or-eq_default labels 0 {n = length labels} (omega arith))

-- ---- all labels' lines

module _ (sound : List ℤ) (labels : List ℕ) (low : Below (length sound) labels) (small : length sound ≤ 256) (near : Within 15360 sound) where
  label-each : (i : ℕ) → i < length labels → length (spectral_label_line sound labels i) ≤ 17
  unfolding spectral_label_line
  label-each i h =
      let l = low i h in
      label-length (get_or labels i 0) (nth sound (get_or labels i 0)) (omega (arith, l, small)) (near (get_or labels i 0) l)

  label-reads : (i : ℕ) → i < length labels
      → line_of label_word (to_z w32 (get_or labels i 0) ∷ to_z w32 (of_z w32 (nth sound (get_or labels i 0))) ∷ []) ≡ spectral_label_line sound labels i
  unfolding spectral_label_line
  label-reads i h =
      let l = low i h in
      label-read (get_or labels i 0) (nth sound (get_or labels i 0)) (omega (arith, l, small)) (near (get_or labels i 0) l)

  module _ (at : ℕ) (out : List ℕ) (room : at + 17 * length labels ≤ length out) where
    line-room : at + length labels * 17 ≤ length out
    line-room = omega (arith, room)

    labels-fit : at + length (gather (spectral_label_line sound labels) (length labels)) ≤ length out
    labels-fit = all_fit 17 at (spectral_label_line sound labels) (length labels) out label-each line-room

    pub no-label : WrittenSoFar at (spectral_label_line sound labels) (length labels) out 0 out at
    no-label = none_written at (spectral_label_line sound labels) (length labels) out labels-fit

    module _ {i : ℕ} {now : List ℕ} {end : ℕ} (w : WrittenSoFar at (spectral_label_line sound labels) (length labels) out i now end) (h : i < length labels) where
      abbrev read : List ℕ
      read = line_of label_word (to_z w32 (get_or labels i 0) ∷ to_z w32 (of_z w32 (nth sound (get_or labels i 0))) ∷ [])

      pub label-fits : end + length read ≤ length now
      label-fits =
          let l = next_fits 17 at (spectral_label_line sound labels) (length labels) out label-each line-room w h in
          read-room end read (spectral_label_line sound labels i) now (label-reads i h) (let e = label-each i h in omega (arith, l, e))

      pub label-more : {r : ℕ} {new : List ℕ} → r ≡ end + length read → new ≡ placed end read now
          → WrittenSoFar at (spectral_label_line sound labels) (length labels) out (i + 1) new r
      label-more e f =
          text-more at (spectral_label_line sound labels) (length labels) out labels-fit w h (read-written end read (spectral_label_line sound labels i) now (label-reads i h) (e, f))

-- ---- the lines of a problem

-- a call with room for exactly the coefficients leaves them
pub spectrum-left : (inputs : ℕ) (rows out : List ℤ) {r : Answer} {now : List ℤ} → length out ≡ 2 ^ inputs → length rows ≡ 2 ^ inputs → r ≡ room_answer inputs (length out)
    → now ≡ leaves r (spectrum_of rows) out → now ≡ spectrum_of rows
unfolding room_answer
spectrum-left inputs rows out {r} same count answer left =
    let s = spectrum_of rows in
    let long : length s ≡ length out = length-spectrum rows ∙ count ∙ sym same in
    let full : length out ≤ length s = omega (arith, long) in
    let done : r ≡ Done = answer ∙ rw (le-ltb (length out) (2 ^ inputs) (omega (arith, same))) in
    left ∙ ap (λ (a : Answer). leaves a s out) done ∙ ap (λ (l : List ℤ). s ++ l) (drop_of_length-le out full) ∙ append-nil s

-- a fault's line with its label and coefficient as the code reads them
abbrev pub FaultRead : Problem → List ℕ → ℕ → ℕ → List ℤ → Type 0
FaultRead p labels f label faulted =
    (label < 256) × (label < length faulted)
    × (line_of fault_word (to_z w32 (f + 1) ∷ to_z w32 label ∷ to_z w32 (of_z w32 (nth faulted label)) ∷ []) ≡ fault_report_line p.sound p.faulted labels f)

module _ (p : Problem) (right : Proper p) (labels : List ℕ) (low : Below (2 ^ p.inputs) labels) where
  few : 2 ^ p.inputs ≤ 256
  few = pow_mono right.inputs-high

  sound-long : length p.sound ≡ 2 ^ p.inputs
  sound-long = right.rows_all 0 (omega arith)

  near : (f : ℕ) → f ≤ length p.faulted → (label : ℕ) → label < 2 ^ p.inputs → nat_abs (coefficient_of (rows_at p f) label) ≤ 15360
  near f named label h =
      let long = right.rows_all f named in
      subst (λ (z : ℤ). nat_abs z ≤ 15360) (at-spectrum (rows_at p f) label (omega (arith, h, long)))
      (fault-spectrum-bounded p right f named label (let s = length-spectrum (rows_at p f) in omega (arith, h, long, s)))

  low_rows : Below (length p.sound) labels
  low_rows = subst (λ (k : ℕ). Below k labels) (sym sound-long) low

  -- what the functions that write lines require of a spectrum
  pub spectrum-ready : (f : ℕ) → f ≤ length p.faulted → (now : List ℤ) → now ≡ spectrum_of (rows_at p f)
      → (length now ≡ 2 ^ p.inputs) × Below (length now) labels × (length now ≤ 256) × Within 15360 now
  spectrum-ready f named now e =
      let long : length now ≡ 2 ^ p.inputs = ap length e ∙ length-spectrum (rows_at p f) ∙ right.rows_all f named in
      (long, subst (λ (k : ℕ). Below k labels) (sym long) low, omega (arith, long, few), subst (Within 15360) (sym e) (fault-spectrum-bounded p right f named))

  pub label-lines-same : (now : List ℤ) → now ≡ spectrum_of p.sound
      → gather (spectral_label_line now labels) (length labels) ≡ gather (label_line p.sound labels) (length labels)
  unfolding spectral_label_line label_line
  label-lines-same now e =
      gather_ext (spectral_label_line now labels) (label_line p.sound labels) (length labels)
      (λ i h. let l = get_or labels i 0 in ap (λ (z : ℤ). line_of label_word (pos l ∷ z ∷ [])) (ap (λ (r : List ℤ). nth r l) e ∙ at-spectrum p.sound l (low_rows i h)))

  pub label-line-length : (i : ℕ) → i < length labels → length (label_line p.sound labels i) ≤ 17
  unfolding label_line
  label-line-length i h =
      let l = low i h in
      label-length (get_or labels i 0) (coefficient_of p.sound (get_or labels i 0)) (omega (arith, l, few)) (near 0 (omega arith) (get_or labels i 0) l)

  module _ (f : ℕ) (h : f < length p.faulted) where
    abbrev S : List ℤ
    S = p.sound

    abbrev F : List ℤ
    F = fault_rows p.faulted f

    abbrev L : ℕ
    L = covering_label S F labels

    named : suc f ≤ length p.faulted
    named = omega (arith, h)

    long : length F ≡ 2 ^ p.inputs
    long = right.rows_all (suc f) named

    covering-low : L < 2 ^ p.inputs
    covering-low = covering-below (2 ^ p.inputs) S F labels (pow_pos p.inputs) low

    covering-near : nat_abs (coefficient_of F L) ≤ 15360
    covering-near = near (suc f) named L covering-low

    pub fault-line-length : length (fault_report_line S p.faulted labels f) ≤ 20
    unfolding fault_report_line
    fault-line-length = fault-length f L (coefficient_of F L) (omega (arith, h, right.faults-high)) (omega (arith, covering-low, few)) covering-near

    -- the spectra, as the circuit call leaves that of the fault
    module _ {answer : Answer} {sound faulted : List ℤ} (before : List ℤ) (s : sound ≡ spectrum_of S) (same : length before ≡ 2 ^ p.inputs) (room : answer ≡ room_answer p.inputs (length before))
        (left : faulted ≡ leaves answer (spectrum_of (rows_at p (f + 1))) before) where
      faulted-is : faulted ≡ spectrum_of F
      faulted-is =
          let n = add-one f in
          spectrum-left p.inputs (rows_at p (f + 1)) before same (ap (λ (k : ℕ). length (rows_at p k)) n ∙ long) room left ∙ ap (λ (k : ℕ). spectrum_of (rows_at p k)) n

      pub spectra-ready : Below (length sound) labels × (length faulted ≡ length sound)
      spectra-ready =
          let r = spectrum-ready 0 (omega arith) sound s in
          let q = spectrum-ready (suc f) named faulted faulted-is in
          (r.1, q.0 ∙ sym r.0)

      -- the line with its numbers as read, with the label that was found
      module _ {label : ℕ} (found : label ≡ spectral_covering sound faulted labels) where
        covering-is : label ≡ L
        covering-is = found ∙ ap₂ (λ (a b : List ℤ). spectral_covering a b labels) s faulted-is ∙ covering-same S F labels (long ∙ sym sound-long) low_rows

        value-is : nth faulted label ≡ coefficient_of F L
        value-is = ap₂ nth faulted-is covering-is ∙ at-spectrum F L (omega (arith, covering-low, long))

        pub fault-read : FaultRead p labels f label faulted
        unfolding fault_report_line
        fault-read =
            let e = ap length faulted-is ∙ length-spectrum F ∙ long in (
              omega (arith, covering-is, covering-low, few),
              omega (arith, covering-is, covering-low, e),
              line_same (natural-bits (f + 1) (omega (arith, h, right.faults-high)) ∙ ap pos (add-one f))
                  (ap (to_z w32) covering-is ∙ natural-bits L (omega (arith, covering-low, few)))
                  (ap (λ (z : ℤ). to_z w32 (of_z w32 z)) value-is ∙ integer-read (coefficient_of F L) covering-near),
            )
          where
            line_same : {a b d e g i : ℤ} → a ≡ b → d ≡ e → g ≡ i → line_of fault_word (a ∷ d ∷ g ∷ []) ≡ line_of fault_word (b ∷ e ∷ i ∷ [])
            line_same x y z = cc

  -- ---- all faults' lines

  module _ (at : ℕ) (out : List ℕ) (room : at + 640 ≤ length out) where
    abbrev line : ℕ → List ℕ
    line = fault_report_line p.sound p.faulted labels

    fault-room : at + length p.faulted * 20 ≤ length out
    fault-room = omega (arith, right.faults-high, room)

    faults-fit : at + length (gather line (length p.faulted)) ≤ length out
    faults-fit = all_fit 20 at line (length p.faulted) out fault-line-length fault-room

    pub no-fault : WrittenSoFar at line (length p.faulted) out 0 out at
    no-fault = none_written at line (length p.faulted) out faults-fit

    module _ {f : ℕ} {now : List ℕ} {end : ℕ} (w : WrittenSoFar at line (length p.faulted) out f now end) (h : f < length p.faulted) where
      module _ (read : List ℕ) (same : read ≡ line f) where
        pub fault-fits : end + length read ≤ length now
        fault-fits =
            let l = next_fits 20 at line (length p.faulted) out fault-line-length fault-room w h in
            let e = fault-line-length f h in
            read-room end read (line f) now same (omega (arith, l, e))

        pub fault-more : {r : ℕ} {new : List ℕ} → r ≡ end + length read → new ≡ placed end read now → WrittenSoFar at line (length p.faulted) out (f + 1) new r
        fault-more e g = text-more at line (length p.faulted) out faults-fit w h (read-written end read (line f) now same (e, g))
