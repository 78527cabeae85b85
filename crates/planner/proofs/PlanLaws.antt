-- The plan call:
--   MarkedBelow            each fault below f changes a row, and the masks are those of the faults below f
--   may-mark               what marking fault f by its rows requires
--   marked-none, marked-one-more, marked-unchanged, marked_all    a loop that marks: at 0, one fault more, at a fault that leaves the rows unchanged, at the end
--   ComparedBelow          no fault below f is silent, and one list is what the outputs show in the sound circuit
--   compared-from, compared-one-more, compared-silent, compared_all    a loop that compares outputs, in the same way
--   AllMarked, all-marked, may-find    each fault changes a row and all are marked, and what the search requires
--   verdict-silent, verdict-hidden, verdict-chosen    the verdict's numbers: 13, 16, and 14 or the labels
--   verdict-text, verdict-room, verdict-served    the call's verdict, by what the text describes
--   front-labels           the front of the labels that the order gives
--   kept, front-used       the working numbers, untouched or with their front used
use mathlib.Core.Path.{◌≡◌, refl, sym, ap, ap₂, ◌∙◌, subst}
use mathlib.Core.Bool.{Bool, true, false, not, cond, and-false}
use mathlib.Core.List.{List, ◌++◌}
use mathlib.Core.Option.{Option, none, some}
use Prim.Native.Nat.{ℕ, suc, ◌+◌, ◌-◌, ◌<◌, ◌≤◌, ◌^◌}
use native.Mathlib.Numerals.{add-one}
use native.Mathlib.Omega.{arith}
use lib.Dec.{ltb, lit≤}
use lib.IntN.{ℤ}
use lib.ListN.{length, take, drop, replicate}
use lib.Pow.{pow_mono}
use lib.Seq.{drop-append-add, drop-drop}
use borrow.Author.Count.{below_more}
use borrow.Author.Tests.{lt-ltb, le-ltb}
use Rattle.cover.specs.Cover.{fault_rows, unchanged, unchanged_at, first_unchanged, signature_of}
use Rattle.cover.specs.Order.{labels_below}
use Rattle.std.specs.Prelude.{Option as Found}
use Rattle.search.specs.Sets.{plan_of}
use Rattle.search.specs.Steps.{clears, set_of, set_at}
use Rattle.cover.specs.Steps.{marked, masks_of}
use Rattle.std.specs.Option.{ok_or}
use Rattle.refusals.specs.declared.Refusal.TheVariants.{NoSet}
use Rattle.cover.proofs.LabelOrder.{labels-count, labels-below}
use Rattle.cover.proofs.Marking.{no-masks, marked_more, length-masks, masks-below}
use Rattle.cover.proofs.Signatures.{found-is, unchanged-each, each-unchanged}
use Rattle.integer.specs.Tab.{Within}
use Rattle.integer.specs.Counting.{up_to}
use Rattle.integer.specs.ListTests.{Below}
use Rattle.integer.proofs.Bools.{clash}
use Rattle.integer.proofs.Bounds.{within_more}
use Rattle.integer.proofs.Firsts.{first-hit, first-none, first-before, first-at, first-all}
use Rattle.integer.proofs.Machine.{due, due-is, due-few}
use Rattle.devices.specs.Describing.{described, refused_at, description_of}
use Rattle.devices.specs.Problems.{Problem, rows_at, outputs_at, Proper}
use Rattle.planner.specs.PlanCall.{Verdict, refused, searched, is_silent, is_hidden, silent_first, hidden_first, verdict_of, working_numbers, plan_verdict, plan_numbers, planned_as, may_use, WorkKept}

-- Marking the faults.

abbrev labels_for : Problem → List ℕ
labels_for p = labels_below (2 ^ p.inputs)

-- by the sound rows and the labels that are at hand
pub record MarkedBelow (p : Problem) (sound-rows : List ℤ) (labels : List ℕ) (f : ℕ) (masks : List ℕ) : Type 0 where
  pub right : Proper p
  pub sound-are : sound-rows ≡ p.sound
  pub labels-are : labels ≡ labels_for p
  pub all-changed : (x : ℕ) → x < f → unchanged_at p.sound p.faulted x ≡ false
  pub marks : masks ≡ masks_of p.sound p.faulted (labels_for p) f

sound-long : (p : Problem) → Proper p → length p.sound ≡ 2 ^ p.inputs
sound-long p w = w.rows_all 0 (omega arith)

pub marked-none : (p : Problem) {sound-rows : List ℤ} {labels : List ℕ} → Proper p → (sound-rows ≡ p.sound) × (labels ≡ labels_for p)
    → (masks : List ℕ) (size : ℕ) → size ≡ 2 ^ p.inputs → masks ≡ replicate size 0 → MarkedBelow p sound-rows labels 0 masks
marked-none p w s masks size e k = record {
  right = w;
  sound-are = s.0;
  labels-are = s.1;
  all-changed = λ x h. absurd (omega arith);
  marks = k ∙ ap (λ (s : ℕ). replicate s 0) (e ∙ sym (sound-long p w)) ∙ sym (no-masks p.sound p.faulted (labels_for p));
}

pub marked_all : (p : Problem) {sound-rows : List ℤ} {labels : List ℕ} (f : ℕ) {masks : List ℕ} → f ≡ length p.faulted → MarkedBelow p sound-rows labels f masks → f ≡ first_unchanged p.sound p.faulted
unfolding first_unchanged
marked_all p f all so_far =
    all ∙ sym (first-none (unchanged_at p.sound p.faulted) (length p.faulted) (λ x h. so_far.all-changed x (subst (λ (k : ℕ). x < k) (sym all) h)))

-- fault f, with its rows, before it is marked
module _ {p : Problem} {sound-rows : List ℤ} {labels : List ℕ} {f : ℕ} {masks : List ℕ} (t : MarkedBelow p sound-rows labels f masks)
    {faulted : List ℤ} (faulted-are : faulted ≡ rows_at p (f + 1)) (low : f < length p.faulted) where
  here : faulted ≡ fault_rows p.faulted f
  here = faulted-are ∙ ap (rows_at p) (add-one f)

  long : length sound-rows ≡ 2 ^ p.inputs
  long = ap length t.sound-are ∙ sound-long p t.right

  named : f + 1 ≤ length p.faulted
  named = omega (arith, low)

  in-range : (k : ℕ) → k ≤ length p.faulted → Within 1000 (rows_at p k)
  in-range k h = within_more {B = 60} {C = 1000} (rows_at p k) (lit≤ tt) (t.right.rows-small k h)

  -- what marking it requires
  pub may-mark :
      ((p.inputs ≤ 8) × (f < 32) × (length sound-rows ≡ 2 ^ p.inputs) × (length faulted ≡ length sound-rows))
      × (((length labels ≡ length sound-rows) × (length masks ≡ length sound-rows))
      × ((Below (length sound-rows) labels × Below (2 ^ f) masks) × (Within 1000 sound-rows × Within 1000 faulted)))
  may-mark =
      let masks-long = length-masks p.sound p.faulted (labels_for p) f in
      let low-labels = subst (Below (2 ^ p.inputs)) (sym t.labels-are) (labels-below (2 ^ p.inputs)) in
      let low-masks = subst (Below (2 ^ f)) (sym t.marks) (masks-below p.sound p.faulted (labels_for p) f) in (
        (t.right.inputs-high, omega (arith, t.right.faults-high, low), long, ap length faulted-are ∙ t.right.rows_all (f + 1) named ∙ sym long),
        (
          (ap length t.labels-are ∙ labels-count p.inputs t.right.inputs-high ∙ sym long, ap length t.marks ∙ masks-long ∙ ap length (sym t.sound-are)),
          ((subst (λ (k : ℕ). Below k labels) (sym long) low-labels, low-masks), (subst (Within 1000) (sym t.sound-are) (in-range 0 (omega arith)), subst (Within 1000) (sym faulted-are) (in-range (f + 1) named))),
        ),
      )

  unchanged-here : unchanged_at p.sound p.faulted f ≡ unchanged sound-rows faulted
  unfolding unchanged_at
  unchanged-here = ap₂ unchanged (sym t.sound-are) (sym here)

  pub marked-unchanged : unchanged sound-rows faulted ≡ true → f ≡ first_unchanged p.sound p.faulted
  unfolding first_unchanged
  marked-unchanged e = sym (first-hit (unchanged_at p.sound p.faulted) (length p.faulted) f low t.all-changed (unchanged-here ∙ e))

  pub marked-one-more : (next : List ℕ) → unchanged sound-rows faulted ≡ false → next ≡ marked sound-rows faulted labels f masks → MarkedBelow p sound-rows labels (f + 1) next
  marked-one-more next e k = record {
    right = t.right;
    sound-are = t.sound-are;
    labels-are = t.labels-are;
    all-changed = below_more (λ x. unchanged_at p.sound p.faulted x ≡ false) f t.all-changed (unchanged-here ∙ e);
    marks =
        k ∙ ap₂ (λ (a b : List ℤ). marked a b labels f masks) t.sound-are here ∙ ap (λ (l : List ℕ). marked p.sound (fault_rows p.faulted f) l f masks) t.labels-are
        ∙ marked_more p.sound p.faulted (labels_for p) f masks t.marks ∙ ap (masks_of p.sound p.faulted (labels_for p)) (sym (add-one f));
  }

-- Comparing the outputs.

-- a fault that changes no output changes no row
module _ (p : Problem) (w : Proper p) where
  silent-unchanged : (f : ℕ) → f < length p.faulted → is_silent p f ≡ true → unchanged_at p.sound p.faulted f ≡ true
  unfolding is_silent unchanged_at
  silent-unchanged f h e =
      each-unchanged p.sound (fault_rows p.faulted f)
      (λ x l. let in-row : x < 2 ^ p.inputs = omega (arith, l, w.rows_all 0 (omega arith)) in
      w.outputs-decide (suc f) x (omega (arith, h)) in-row
      (unchanged-each p.sound_outputs (fault_rows p.faulted_outputs f) e x (omega (arith, in-row, w.outputs_all 0 (omega arith)))))

  pub changed-not-silent : (f : ℕ) → f < length p.faulted → unchanged_at p.sound p.faulted f ≡ false → is_silent p f ≡ false
  changed-not-silent f h e = go (is_silent p f) (silent-unchanged f h)
    where
      go : (t : Bool) → (t ≡ true → unchanged_at p.sound p.faulted f ≡ true) → t ≡ false
      go true k = clash (sym (k refl) ∙ e)
      go false k = refl

pub record ComparedBelow (p : Problem) (sound-outputs : List ℤ) (f : ℕ) : Type 0 where
  pub sound-are : sound-outputs ≡ p.sound_outputs
  pub none-silent : (x : ℕ) → x < f → is_silent p x ≡ false

-- from the first fault on that leaves the rows unchanged
pub compared-from : (p : Problem) (w : Proper p) {sound-outputs : List ℤ} (from : ℕ) → sound-outputs ≡ p.sound_outputs → from ≡ first_unchanged p.sound p.faulted
    → from ≤ length p.faulted → ComparedBelow p sound-outputs from
unfolding first_unchanged
compared-from p w from s e few = record {
  sound-are = s;
  none-silent = λ x h. changed-not-silent p w x (omega (arith, h, few)) (first-before (unchanged_at p.sound p.faulted) (length p.faulted) x (omega (arith, h, e)));
}

pub compared_all : (p : Problem) {sound-outputs : List ℤ} (f : ℕ) → length p.faulted ≤ f → ComparedBelow p sound-outputs f → length p.faulted ≤ silent_first p
unfolding silent_first
compared_all p f all so_far = omega (arith, first-none (is_silent p) (length p.faulted) (λ x h. so_far.none-silent x (omega (arith, h, all))))

module _ {p : Problem} {sound-outputs : List ℤ} {f : ℕ} (t : ComparedBelow p sound-outputs f) {faulted : List ℤ} (faulted-are : faulted ≡ outputs_at p (f + 1)) where
  silent-here : is_silent p f ≡ unchanged sound-outputs faulted
  unfolding is_silent unchanged_at
  silent-here = ap₂ unchanged (sym t.sound-are) (sym (faulted-are ∙ ap (outputs_at p) (add-one f)))

  pub compared-silent : f < length p.faulted → unchanged sound-outputs faulted ≡ true → f ≡ silent_first p
  unfolding silent_first
  compared-silent low e = sym (first-hit (is_silent p) (length p.faulted) f low t.none-silent (silent-here ∙ e))

  pub compared-one-more : unchanged sound-outputs faulted ≡ false → ComparedBelow p sound-outputs (f + 1)
  compared-one-more e = record {
    sound-are = t.sound-are;
    none-silent = below_more (λ x. is_silent p x ≡ false) f t.none-silent (silent-here ∙ e);
  }

-- The verdict.

pub verdict-silent : (p : Problem) (first : ℕ) → first ≡ silent_first p → first < length p.faulted → refused 13 (first + 1) ≡ verdict_of p
unfolding verdict_of
verdict-silent p first e h = rw (← e, lt-ltb first (length p.faulted) h, add-one)

-- where none is silent, the first fault that leaves the rows unchanged is the first hidden one
module _ (p : Problem) (first : ℕ) (is-first : first ≡ first_unchanged p.sound p.faulted) (low : first < length p.faulted) (none-silent : length p.faulted ≤ silent_first p) where
  hidden-is : hidden_first p ≡ first
  unfolding hidden_first is_hidden silent_first first_unchanged
  hidden-is =
      first-hit (is_hidden p) (length p.faulted) first low
      (λ x h. rw (first-before (unchanged_at p.sound p.faulted) (length p.faulted) x (omega (arith, h, is-first))) (and-false (not (is_silent p x))))
      (rw (first-all (is_silent p) (length p.faulted) none-silent first low) (ap (unchanged_at p.sound p.faulted) is-first ∙ first-at (unchanged_at p.sound p.faulted) (length p.faulted) (omega (arith, low, is-first))))

  pub verdict-hidden : refused 16 (first + 1) ≡ verdict_of p
  unfolding verdict_of
  verdict-hidden = rw (le-ltb (silent_first p) (length p.faulted) none-silent, hidden-is, lt-ltb first (length p.faulted) low, add-one)

abbrev signature : Problem → Option (List ℕ)
signature p = signature_of p.sound p.faulted p.cap

-- where each fault changes a row
module _ (p : Problem) (w : Proper p) (changed : length p.faulted ≤ first_unchanged p.sound p.faulted) where
  changed-each : (x : ℕ) → x < length p.faulted → unchanged_at p.sound p.faulted x ≡ false
  unfolding first_unchanged
  changed-each x h = first-all (unchanged_at p.sound p.faulted) (length p.faulted) changed x h

  pub verdict-searched : verdict_of p ≡ searched (signature p)
  unfolding verdict_of silent_first hidden_first is_hidden
  verdict-searched =
      let q = length p.faulted in
      let none = first-none (is_silent p) q (λ x h. changed-not-silent p w x h (changed-each x h)) in
      let none-hidden = first-none (is_hidden p) q (λ x h. rw (changed-each x h) (and-false (not (is_silent p x)))) in
      rw (le-ltb (silent_first p) q (omega (arith, none)), le-ltb (hidden_first p) q (omega (arith, none-hidden)))

-- each fault changes a row, and all are marked
pub record AllMarked (p : Problem) (q : ℕ) (labels masks : List ℕ) : Type 0 where
  pub right : Proper p
  pub count : length p.faulted ≡ q
  pub all-changed : q ≤ first_unchanged p.sound p.faulted
  pub labels-are : labels ≡ labels_for p
  pub masks-are : masks ≡ masks_of p.sound p.faulted (labels_for p) q

pub all-marked : {p : Problem} {q : ℕ} {labels masks : List ℕ} → Proper p → q ≡ length p.faulted → labels ≡ labels_for p → length p.faulted ≤ first_unchanged p.sound p.faulted
    → masks ≡ masks_of p.sound p.faulted (labels_for p) (length p.faulted) → AllMarked p q labels masks
all-marked {p} w e l s m = record {
  right = w;
  count = sym e;
  all-changed = omega (arith, e, s);
  labels-are = l;
  masks-are = m ∙ ap (masks_of p.sound p.faulted (labels_for p)) (sym e);
}

module _ {p : Problem} {q : ℕ} {labels masks : List ℕ} (r : AllMarked p q labels masks) where
  -- what the search requires
  pub may-find : (length labels ≡ length masks) × (length masks ≤ 256) × (1 ≤ q) × (q ≤ 32) × (p.cap ≤ 4)
  may-find =
      let long : length masks ≡ 2 ^ p.inputs = ap length r.masks-are ∙ length-masks p.sound p.faulted (labels_for p) q ∙ sound-long p r.right in (
        ap length r.labels-are ∙ labels-count p.inputs r.right.inputs-high ∙ sym long,
        subst (λ (k : ℕ). k ≤ 256) (sym long) (pow_mono r.right.inputs-high),
        omega (arith, r.right.faults-low, r.count),
        omega (arith, r.right.faults-high, r.count),
        r.right.cap-high,
      )

  -- what it finds
  module _ (o : Found (List ℕ)) (found : o ≡ set_at labels (plan_of (clears masks (2 ^ q - 1)) (up_to (length masks)) p.cap)) where
    as-signature : o ≡ set_of (signature p)
    as-signature =
        let all : q ≡ length p.faulted = sym r.count in
        found ∙ ap (λ (k : ℕ). set_at labels (plan_of (clears masks (2 ^ k - 1)) (up_to (length masks)) p.cap)) all
        ∙ found-is p.sound p.faulted labels p.inputs r.right.inputs-high (sound-long p r.right) (r.labels-are ∙ ap labels_below (sym (sound-long p r.right))) masks p.cap
        (r.masks-are ∙ ap₂ (masks_of p.sound p.faulted) (sym r.labels-are) all)

    pub verdict-chosen : planned_as (ok_or o NoSet) ≡ plan_numbers (verdict_of p)
    verdict-chosen = rw (as-signature, verdict-searched p r.right (omega (arith, r.count, r.all-changed))) (go (signature p))
      where
        go : (s : Option (List ℕ)) → planned_as (ok_or (set_of s) NoSet) ≡ plan_numbers (searched s)
        go none = refl
        go (some labels) = refl

-- by what was described
module _ (text : List ℕ) (work : ℕ) where
  pub verdict-text : {number place : ℕ} → refused_at number place ≡ description_of text → refused number place ≡ plan_verdict text work
  unfolding plan_verdict
  verdict-text e = rw (← e)

  module _ (p : Problem) (is : described p ≡ description_of text) where
    pub verdict-room : work < working_numbers → refused 8 0 ≡ plan_verdict text work
    unfolding plan_verdict
    verdict-room h = rw (← is, lt-ltb work working_numbers h)

    pub verdict-served : working_numbers ≤ work → verdict_of p ≡ plan_verdict text work
    unfolding plan_verdict
    verdict-served h = rw (← is, le-ltb work working_numbers h)

-- The working numbers.

pub kept : (v : Verdict) (work : List ℕ) → WorkKept v work work
kept v work = record { later-kept = refl; all-kept = λ e. refl }

verdict-uses : (p : Problem) → may_use (verdict_of p) ≡ true
unfolding verdict_of may_use
verdict-uses p = go (ltb (silent_first p) (length p.faulted)) (ltb (hidden_first p) (length p.faulted)) (signature p)
  where
    go : (a b : Bool) (o : Option (List ℕ)) → may_use (cond a (refused 13 (suc (silent_first p))) (cond b (refused 16 (suc (hidden_first p))) (searched o))) ≡ true
    go true b o = refl
    go false true o = refl
    go false false none = refl
    go false false (some xs) = refl

-- The fronts that are lent: 2^N numbers.

module _ (inputs : ℕ) (few : inputs ≤ 8) where
  abbrev D : ℕ
  D = due inputs few

  pub front-labels : (labels : List ℕ) → take (length (labels_below D)) labels ≡ labels_below D → take D labels ≡ labels_below (2 ^ inputs)
  front-labels labels e =
      let all : length (labels_below D) ≡ D = ap (λ (n : ℕ). length (labels_below n)) (due-is inputs few) ∙ labels-count inputs few ∙ sym (due-is inputs few) in
      ap (λ (n : ℕ). take n labels) (sym all) ∙ e ∙ ap labels_below (due-is inputs few)

  pub front-used : (p : Problem) (front before : List ℕ) → length front ≡ D → WorkKept (verdict_of p) before (front ++ drop D before)
  front-used p front before long = record {
    later-kept =
        let low = due-few inputs few in
        let split : working_numbers ≡ length front + (working_numbers - D) = omega arith in
        let join : D + (working_numbers - D) ≡ working_numbers = omega arith in
        ap (λ (k : ℕ). drop k (front ++ drop D before)) split ∙ drop-append-add front (drop D before) (working_numbers - D)
        ∙ drop-drop (working_numbers - D) D before ∙ ap (λ (k : ℕ). drop k before) join;
    all-kept = λ none. clash (sym (verdict-uses p) ∙ none);
  }
