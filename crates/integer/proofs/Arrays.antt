-- Arrays that are in use from the front (`padded`):
--   padded-used     how many of the items are in use
--   padded-front    a write to the front of a new array leaves it padded
--   padded-taken    so is an array whose rest is spare
--   spare-stored    the rest stays spare where the next item is stored
use Rattle.std.proofs.Common.{arith, sym, ap, ◌∙◌, ◌≡◌, ◌≤◌, ◌-◌, ◌+◌, ℕ, List, ◌++◌, length, set, take, drop, replicate, length-append}
use Rattle.std.proofs.lemmas.List.{length-take, length-take-le, length-replicate, drop-replicate, drop-drop, drop-set-lt, take-append-drop}
use Rattle.std.proofs.Math.Seq.{take-append_seam}
use Rattle.integer.specs.Padded.{padded}

module _ {A : Type 0} (size k : ℕ) (spare : A) (xs : List A) where
  pub padded-used : k ≤ size → xs ≡ padded size spare (take k xs) → length (take k xs) ≡ k
  padded-used few e =
      omega (arith, few, ap length e, length-append (take k xs) (replicate (size - length (take k xs)) spare), length-replicate (size - length (take k xs)) spare, length-take k xs)

  pub padded-front : length xs ≡ k → xs ++ drop k (replicate size spare) ≡ padded size spare (take k (xs ++ drop k (replicate size spare)))
  padded-front e =
      rw (ap (λ (n : ℕ). take n (xs ++ drop k (replicate size spare))) (sym e) ∙ take-append_seam xs (drop k (replicate size spare)), drop-replicate k size spare, e)

  pub padded-taken : k ≤ length xs → drop k xs ≡ replicate (size - k) spare → xs ≡ padded size spare (take k xs)
  padded-taken few rest =
      rw (length-take-le k xs few) (sym (take-append-drop k xs) ∙ ap (λ (l : List A). take k xs ++ l) rest)

  pub spare-stored : (x : A) → drop k xs ≡ replicate (size - k) spare → drop (k + 1) (set xs k x) ≡ replicate (size - (k + 1)) spare
  spare-stored x rest =
      drop-set-lt (k + 1) xs k x (omega arith)
      ∙ sym (drop-drop 1 k xs)
      ∙ ap (λ (l : List A). drop 1 l) rest
      ∙ drop-replicate 1 (size - k) spare
      ∙ ap (λ (n : ℕ). replicate n spare) (omega arith)
