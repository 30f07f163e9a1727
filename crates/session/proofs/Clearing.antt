-- A table whose first cells are cleared.
use Rattle.std.proofs.Common.{◌≡◌, ℕ, ◌<◌, min, List, ◌++◌, length, take, drop, replicate, ap, ◌∙◌, append-nil, arith, drop_of_length-le, length-take, take_all}
use native.Mathlib.Decide.{dec_lt}
use lib.ListN.{length-replicate}
use borrow.Rule.Slice.PartMut.{post_of}
use Rattle.std.proofs.lemmas.List.{take_at}
use Rattle.std.proofs.lemmas.Slice.{drop-append-drop}

module _ {X : Type 0} (xs ys : List X) (k n : ℕ) (x : X) (cut : k ≡ min n (length xs)) (is : ys ≡ replicate (length (take k xs)) x) where
  many : length ys ≡ k
  many = ap length is ∙ length-replicate (length (take k xs)) x ∙ length-take k xs ∙ (let z : min k (length xs) ≡ k = omega arith in z)

  same : ys ≡ replicate (min n (length xs)) x
  same = is ∙ ap (λ i. replicate i x) (length-take k xs ∙ (let z : min k (length xs) ≡ min n (length xs) = omega arith in z))

  pub front_cleared : take n (ys ++ post_of 0 k xs) ≡ replicate (min n (length xs)) x
  front_cleared = go (dec_lt (length xs) n)
    where
      go : Dec (length xs < n) → take n (ys ++ drop k xs) ≡ replicate (min n (length xs)) x
      go (yes l) = ap (λ r. take n (ys ++ r)) (drop_of_length-le xs (omega arith)) ∙ ap (take n) (append-nil ys) ∙ take_all n ys (omega (arith, many)) ∙ same
      go (no l) = take_at ys (drop k xs) n (many ∙ (let z : k ≡ n = omega arith in z)) ∙ same

  pub back_kept : drop n (ys ++ post_of 0 k xs) ≡ drop n xs
  back_kept = drop-append-drop k xs ys n (omega arith) many
