-- Places of two rows, one after the other.
use Rattle.std.proofs.Common.{◌≡◌, ℕ, zero, suc, ◌-◌, ◌≤◌, List, [], ◌∷◌, ◌++◌, length, get_or, Some, None, refl, ap, ◌∙◌, arith}
use Rattle.std.specs.List.{slice_get}

module _ {X : Type 0} where
  pub nth_none : (xs : List X) (i : ℕ) → slice_get xs i ≡ None → length xs ≤ i
  nth_none [] i e = omega arith
  nth_none (y ∷ xs) zero e = absurd (let z : ◌≡◌ {A = ℕ} 0 1 = cc in omega arith)
  nth_none (y ∷ xs) (suc i) e = omega (arith, nth_none xs i e)

  pub nth_value : (xs : List X) (i : ℕ) (x d : X) → slice_get xs i ≡ Some x → x ≡ get_or xs i d
  nth_value [] i x d e = absurd (let z : ◌≡◌ {A = ℕ} 0 1 = cc in omega arith)
  nth_value (y ∷ xs) zero x d e = cc
  nth_value (y ∷ xs) (suc i) x d e = nth_value xs i x d e
