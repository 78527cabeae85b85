-- Demand 3:
--   demand-three    for every accepted text and enough working numbers, the answer of the plan call is right
--   right-verdict   the verdict on a proper problem is right
use mathlib.Core.Path.{◌≡◌, refl, sym, ap, ◌∙◌, subst}
use mathlib.Core.Bool.{Bool, true, false, not, cond}
use mathlib.Core.List.{List, [], Memᴰ}
use mathlib.Core.Logic.{◌↔◌, ◌⊎◌, inl, inr}
use mathlib.Core.Option.{Option, none, some}
use Prim.Native.Nat.{ℕ, zero, suc, ◌<◌, ◌≤◌, ◌^◌}
use native.Mathlib.Omega.{arith}
use lib.Dec.{ltb}
use lib.IntN.{ℤ, pos}
use lib.ListN.{length, take, get_or, get_or-eq_default}
use lib.Pow.{pow_mono}
use lib.Seq.{ext_get_or}
use borrow.Author.Tests.{ltb-true, ltb-false, le-ltb, not-true}
use Rattle.cover.specs.Cover.{fault_rows, unchanged, unchanged_at, signature_of}
use Rattle.cover.specs.Order.{rising, precedes}
use Rattle.search.specs.Sets.{four_of}
use Rattle.cover.proofs.Signatures.{Covering, unchanged-each, each-unchanged, some-changed, signature-found, signature-ordered, signature-least, signature-none, signature-first}
use Rattle.integer.specs.First.{first_where}
use Rattle.integer.specs.Tab.{nth}
use Rattle.integer.proofs.Bools.{both, clash}
use Rattle.integer.proofs.Firsts.{first-at, first-before, first-all}
use Rattle.integer.specs.ListTests.{distinct}
use Rattle.devices.specs.Describing.{described, description_of, on_description}
use Rattle.devices.specs.Problems.{Problem, rows_at, Proper}
use Rattle.devices.proofs.Descriptions.{described-proper}
use Rattle.transform.specs.Spectrum.{coefficient_of}
use Rattle.planner.specs.PlanCall.{Verdict, refused, planned, searched, is_silent, is_hidden, silent_first, hidden_first, verdict_of, working_numbers, problem_verdict, plan_verdict, plan_numbers, plan_answer}
use Rattle.planner.specs.Demand.{Named, Shows, Possible, Silent, SomeSilent, Changes, Hidden, SomeHidden, FirstFault, Right}
use Rattle.search.proofs.SetsBySize.{kept-four}

-- places past the size hold 0
rest-none : (xs : List ℕ) (i : ℕ) → length xs ≤ i → get_or (four_of xs) i 0 ≡ 0
rest-none xs zero h = get_or-eq_default xs 0 h
rest-none xs (suc zero) h = get_or-eq_default xs 0 h
rest-none xs (suc (suc zero)) h = get_or-eq_default xs 0 h
rest-none xs (suc (suc (suc zero))) h = get_or-eq_default xs 0 h
rest-none xs (suc (suc (suc (suc i)))) h = refl

module _ (p : Problem) (w : Proper p) where
  abbrev S : List ℤ
  S = p.sound

  abbrev F : List (List ℤ)
  F = p.faulted

  long : length S ≡ 2 ^ p.inputs
  long = w.rows_all 0 (omega arith)

  few : length S ≤ 256
  few = subst (λ (k : ℕ). k ≤ 256) (sym long) (pow_mono w.inputs-high)

  -- a fault's number from 1 is an index from 0
  at-number : (f : ℕ) → Named p f → (k : ℕ) × (k < length F) × (f ≡ suc k)
  at-number zero h = absurd (omega (arith, h.0))
  at-number (suc k) h = (k, omega (arith, h.1), refl)

  covering : (ys : List ℕ) → Shows p ys → Covering S F ys
  covering ys s =
      record {
        labels = λ y m. subst (λ (k : ℕ). y < k) (sym long) (s.low y m);
        each = λ f h. s.each (suc f) (omega arith, omega (arith, h));
      }

  shows : (ys : List ℕ) → Covering S F ys → Shows p ys
  shows ys c =
      record {
        low = λ l m. subst (λ (k : ℕ). l < k) long (c.labels l m);
        each = λ f h. each-shown f h;
      }
    where
      each-shown : (f : ℕ) → Named p f → (l : ℕ) × Memᴰ l ys × (coefficient_of (rows_at p 0) l ≡ coefficient_of (rows_at p f) l → ⊥)
      each-shown zero h = absurd (omega (arith, h.0))
      each-shown (suc k) h = c.each k (omega (arith, h.1))

  -- a fault that leaves every row as it was has the sound rows, so no label shows it
  same-all : (f : ℕ) → Named p f → ((x : ℕ) → x < 2 ^ p.inputs → nth (rows_at p 0) x ≡ nth (rows_at p f) x) → rows_at p 0 ≡ rows_at p f
  same-all f named s = ext_get_or (pos 0) (rows_at p 0) (rows_at p f) (long ∙ sym (w.rows_all f named.1)) (λ x h. s x (subst (λ (k : ℕ). x < k) long h))

  unshown : (f : ℕ) → Named p f → ((x : ℕ) → x < 2 ^ p.inputs → nth (rows_at p 0) x ≡ nth (rows_at p f) x) → Possible p → ⊥
  unshown f named s possible =
      let r = possible.1.each f named in
      r.2 (ap (λ (l : List ℤ). coefficient_of l r.0) (same-all f named s))

  silent-unshown : SomeSilent p → Possible p → ⊥
  silent-unshown q = unshown q.0 q.1 (λ x h. w.outputs-decide q.0 x q.1.1 h (q.2 x h))

  hidden-unshown : SomeHidden p → Possible p → ⊥
  hidden-unshown q = unshown q.0 q.1 q.2.1

  -- what the tests of a fault say, from 0

  wide : length p.sound_outputs ≡ 2 ^ p.inputs
  wide = w.outputs_all 0 (omega arith)

  silent-there : (k : ℕ) → is_silent p k ≡ true → Silent p (suc k)
  unfolding is_silent unchanged_at
  silent-there k e x l = unchanged-each p.sound_outputs (fault_rows p.faulted_outputs k) e x (subst (λ (m : ℕ). x < m) (sym wide) l)

  silent-back : (k : ℕ) → Silent p (suc k) → is_silent p k ≡ true
  unfolding is_silent unchanged_at
  silent-back k s = each-unchanged p.sound_outputs (fault_rows p.faulted_outputs k) (λ x l. s x (subst (λ (m : ℕ). x < m) wide l))

  changes-there : (k : ℕ) → is_silent p k ≡ false → Changes p (suc k)
  unfolding is_silent unchanged_at
  changes-there k e = let r = some-changed p.sound_outputs (fault_rows p.faulted_outputs k) e in (r.0, subst (λ (m : ℕ). r.0 < m) wide r.1, r.2)

  changes-back : (k : ℕ) → Changes p (suc k) → is_silent p k ≡ false
  changes-back k c = go (is_silent p k) (silent-there k)
    where
      go : (t : Bool) → (t ≡ true → Silent p (suc k)) → t ≡ false
      go true s = absurd (c.2 (s refl c.0 c.1))
      go false s = refl

  hidden-there : (k : ℕ) → is_hidden p k ≡ true → Hidden p (suc k)
  unfolding is_hidden unchanged_at
  hidden-there k e =
      let r = both (not (is_silent p k)) (unchanged S (fault_rows F k)) e in
      (changes-there k (not-true (is_silent p k) r.0), λ x l. unchanged-each S (fault_rows F k) r.1 x (subst (λ (m : ℕ). x < m) (sym long) l))

  hidden-back : (k : ℕ) → Hidden p (suc k) → is_hidden p k ≡ true
  unfolding is_hidden unchanged_at
  hidden-back k h = rw (changes-back k h.0) (each-unchanged S (fault_rows F k) (λ x l. h.1 x (subst (λ (m : ℕ). x < m) long l)))

  -- the first fault that a test finds
  module _ (test : ℕ → Bool) (Kind : ℕ → Type 0) (there : (k : ℕ) → test k ≡ true → Kind (suc k)) (back : (k : ℕ) → Kind (suc k) → test k ≡ true) where
    abbrev first : ℕ
    first = first_where test (length F)

    first-fault : first < length F → FirstFault p Kind (suc first)
    first-fault low = record {
      named = (omega arith, omega (arith, low));
      here = there first (first-at test (length F) low);
      none-earlier = none;
    }
      where
        none : (f : ℕ) → 1 ≤ f → f < suc first → Kind f → ⊥
        none zero l h k = omega (arith, l)
        none (suc f) l h k = clash (sym (back f k) ∙ first-before test (length F) f (omega (arith, h)))

    some-fault : first < length F → (f : ℕ) × Named p f × Kind f
    some-fault low = let r = first-fault low in (suc first, r.named, r.here)

    none-fault : length F ≤ first → ((f : ℕ) × Named p f × Kind f) → ⊥
    none-fault past q =
        let a = at-number q.0 q.1 in
        clash (sym (back a.0 (subst Kind a.2 q.2)) ∙ first-all test (length F) past a.0 a.1)

  -- a refusal is right where what is said of its number is
  refused-right : (number place : ℕ) → (number ≡ 0 → ⊥) → (Possible p → ⊥)
      → ((number ≡ 13) ↔ SomeSilent p) → (number ≡ 13 → FirstFault p (Silent p) place)
      → ((number ≡ 16) ↔ ((SomeSilent p → ⊥) × SomeHidden p)) → (number ≡ 16 → FirstFault p (Hidden p) place)
      → ((number ≡ 14) ↔ ((Possible p → ⊥) × (SomeSilent p → ⊥) × (SomeHidden p → ⊥))) → (number ≡ 14 → place ≡ 0)
      → ((number ≡ 13) ⊎ ((number ≡ 16) ⊎ (number ≡ 14))) → Right p (plan_numbers (refused number place))
  refused-right number place not-zero impossible silent first-silent hidden first-hidden unplanned nowhere one =
      record {
        planned-exactly = (λ z. absurd (not-zero z), λ q. absurd (impossible q));
        plan-place = λ z. absurd (not-zero z);
        plan-shows = λ z. absurd (not-zero z);
        plan-size = λ z. absurd (not-zero z);
        plan-within = λ z. absurd (not-zero z);
        plan-least = λ z. absurd (not-zero z);
        plan-ordered = λ z. absurd (not-zero z);
        plan-first = λ z. absurd (not-zero z);
        plan-none-hidden = λ z. absurd (not-zero z);
        silent-exactly = silent;
        silent-first = first-silent;
        hidden-exactly = hidden;
        hidden-first = first-hidden;
        unplanned-exactly = unplanned;
        unplanned-place = nowhere;
        no_other = inr one;
        rest-zero = rest-none [];
        refused-zero = λ z. (refl, refl);
      }

  module _ (low : silent_first p < length F) where
    some-silent : SomeSilent p
    unfolding silent_first
    some-silent = some-fault (is_silent p) (Silent p) silent-there silent-back low

    right-silent : Right p (plan_numbers (refused 13 (suc (silent_first p))))
    unfolding silent_first
    right-silent =
        refused-right 13 (suc (silent_first p)) (λ z. omega (arith, z)) (silent-unshown some-silent)
        (λ z. some-silent, λ q. refl) (λ z. first-fault (is_silent p) (Silent p) silent-there silent-back low)
        (λ z. absurd (omega (arith, z)), λ q. absurd (q.0 some-silent)) (λ z. absurd (omega (arith, z)))
        (λ z. absurd (omega (arith, z)), λ q. absurd (q.1 some-silent)) (λ z. absurd (omega (arith, z)))
        (inl refl)

  module _ (past_all : length F ≤ silent_first p) where
    none-silent : SomeSilent p → ⊥
    unfolding silent_first
    none-silent = none-fault (is_silent p) (Silent p) silent-there silent-back past_all

    module _ (low : hidden_first p < length F) where
      some-hidden : SomeHidden p
      unfolding hidden_first
      some-hidden = some-fault (is_hidden p) (Hidden p) hidden-there hidden-back low

      right-hidden : Right p (plan_numbers (refused 16 (suc (hidden_first p))))
      unfolding hidden_first
      right-hidden =
          refused-right 16 (suc (hidden_first p)) (λ z. omega (arith, z)) (hidden-unshown some-hidden)
          (λ z. absurd (omega (arith, z)), λ q. absurd (none-silent q)) (λ z. absurd (omega (arith, z)))
          (λ z. (none-silent, some-hidden), λ q. refl) (λ z. first-fault (is_hidden p) (Hidden p) hidden-there hidden-back low)
          (λ z. absurd (omega (arith, z)), λ q. absurd (q.2 some-hidden)) (λ z. absurd (omega (arith, z)))
          (inr (inl refl))

    module _ (none-left : length F ≤ hidden_first p) where
      none-hidden : SomeHidden p → ⊥
      unfolding hidden_first
      none-hidden = none-fault (is_hidden p) (Hidden p) hidden-there hidden-back none-left

      module _ (xs : List ℕ) (e : signature_of S F p.cap ≡ some xs) where
        found : Covering S F xs × (1 ≤ length xs) × (length xs ≤ p.cap)
        found = signature-found S F p.cap xs e

        as-returned : take (length xs) (four_of xs) ≡ xs
        as-returned = kept-four xs (omega (arith, found.2, w.cap-high))

        xs-shows : Shows p xs
        xs-shows = shows xs found.0

        right-planned : Right p (plan_numbers (planned xs))
        right-planned =
            record {
              planned-exactly = (λ z. (xs, xs-shows, found.2), λ q. refl);
              plan-place = λ z. refl;
              plan-shows = λ z. subst (Shows p) (sym as-returned) xs-shows;
              plan-size = λ z. ap length as-returned;
              plan-within = λ z. found.2;
              plan-least = λ z ys s. signature-least S F few w.faults-low p.cap ys (covering ys s) xs e;
              plan-ordered = λ z.
                  let o = signature-ordered S F p.cap xs e in
                  subst (λ (l : List ℕ). (rising l ≡ true) × (distinct l ≡ true)) (sym as-returned) (o.1, o.2);
              plan-first = λ z ys s r k.
                  subst (λ (l : List ℕ). precedes l ys ≡ true) (sym as-returned) (signature-first S F few w.faults-low p.cap ys (covering ys s) xs e k r);
              plan-none-hidden = λ z. (none-silent, none-hidden);
              silent-exactly = (λ z. absurd (omega (arith, z)), λ q. absurd (none-silent q));
              silent-first = λ z. absurd (omega (arith, z));
              hidden-exactly = (λ z. absurd (omega (arith, z)), λ q. absurd (none-hidden q.1));
              hidden-first = λ z. absurd (omega (arith, z));
              unplanned-exactly = (λ z. absurd (omega (arith, z)), λ q. absurd (q.0 (xs, xs-shows, found.2)));
              unplanned-place = λ z. absurd (omega (arith, z));
              no_other = inl refl;
              rest-zero = rest-none xs;
              refused-zero = λ z. absurd (z refl);
            }

      module _ (e : signature_of S F p.cap ≡ none) where
        impossible : Possible p → ⊥
        impossible q = signature-none S F few w.faults-low p.cap q.0 (covering q.0 q.1) e q.2

        right-unplanned : Right p (plan_numbers (refused 14 0))
        right-unplanned =
            refused-right 14 0 (λ z. omega (arith, z)) impossible
            (λ z. absurd (omega (arith, z)), λ q. absurd (none-silent q)) (λ z. absurd (omega (arith, z)))
            (λ z. absurd (omega (arith, z)), λ q. absurd (none-hidden q.1)) (λ z. absurd (omega (arith, z)))
            (λ z. (impossible, none-silent, none-hidden), λ q. refl) (λ z. refl)
            (inr (inr refl))

  pub right-verdict : Right p (plan_numbers (verdict_of p))
  unfolding verdict_of
  right-verdict = go (ltb (silent_first p) (length F)) refl (ltb (hidden_first p) (length F)) refl (signature_of S F p.cap) refl
    where
      go : (s : Bool) → ltb (silent_first p) (length F) ≡ s → (h : Bool) → ltb (hidden_first p) (length F) ≡ h → (o : Option (List ℕ)) → signature_of S F p.cap ≡ o
          → Right p (plan_numbers (cond s (refused 13 (suc (silent_first p))) (cond h (refused 16 (suc (hidden_first p))) (searched o))))
      go true s h t o e = right-silent (ltb-true (silent_first p) (length F) s)
      go false s true t o e = right-hidden (ltb-false (silent_first p) (length F) s) (ltb-true (hidden_first p) (length F) t)
      go false s false t (some xs) e = right-planned (ltb-false (silent_first p) (length F) s) (ltb-false (hidden_first p) (length F) t) xs e
      go false s false t none e = right-unplanned (ltb-false (silent_first p) (length F) s) (ltb-false (hidden_first p) (length F) t) e

pub demand-three : (text : List ℕ) (p : Problem) (work : ℕ) → description_of text ≡ described p → working_numbers ≤ work → Right p (plan_answer text work)
unfolding plan_answer plan_verdict
demand-three text p work e h =
    subst (λ (v : Verdict). Right p (plan_numbers v)) (sym (ap (on_description (problem_verdict work) refused) e ∙ ap (λ (t : Bool). cond t (refused 8 0) (verdict_of p)) (le-ltb work working_numbers h)))
    (right-verdict p (described-proper text p e))
