-- One value more in a row.
use Rattle.std.proofs.Common.{◌≡◌, ℕ, zero, suc, ◌≤◌, ◌⊎◌, List, [], ◌∷◌, length, take, Ordering, Less, Equal, Greater, sym, refl, subst, inl, inr, arith, length-take}
use Rattle.measure.specs.Algebra.{Algebra, Laws, Before}
use Rattle.walks.specs.Rows.{In, BeforeAll, Ascending, Covers}
use Rattle.walks.specs.Method.{choose, place}
use Rattle.walks.proofs.Orders.{greater}
use Rattle.walks.proofs.Rows.{above_in, above_trans}

pub in_take : {V : Type 0} (k : ℕ) (xs : List V) (z : V) → In z (take k xs) → In z xs
in_take zero xs z i = absurd i
in_take (suc k) [] z i = i
in_take (suc k) (x ∷ xs) z (inl e) = inl e
in_take (suc k) (x ∷ xs) z (inr i) = inr (in_take k xs z i)

module _ {V : Type 0} (m : Algebra V) where
  above_take : (k : ℕ) (y : V) (xs : List V) → BeforeAll m y xs → BeforeAll m y (take k xs)
  above_take zero y xs h = tt
  above_take (suc k) y [] h = h
  above_take (suc k) y (x ∷ xs) h = (h.0, above_take k y xs h.1)

  pub ascending_take : (k : ℕ) (xs : List V) → Ascending m xs → Ascending m (take k xs)
  ascending_take zero xs h = tt
  ascending_take (suc k) [] h = h
  ascending_take (suc k) (x ∷ xs) h = (above_take k x xs h.0, ascending_take k xs h.1)

  pub covers_take : (k : ℕ) (xs : List V) (z : V) → Covers m (suc k) xs z → Covers m k (take k xs) z
  covers_take zero xs z c = tt
  covers_take (suc k) [] z c = c
  covers_take (suc k) (x ∷ xs) z (inl e) = inl e
  covers_take (suc k) (x ∷ xs) z (inr h) = inr (h.0, covers_take k xs z h.1)

module _ {V : Type 0} {m : Algebra V} (laws : Laws m) where
  pub place_in : (k : ℕ) (x : V) (row : List V) (z : V) → In z (place m k x row) → (z ≡ x) ⊎ In z row
  place_in zero x row z i = absurd i
  place_in (suc k) x [] z (inl e) = inl e
  place_in (suc k) x [] z (inr i) = absurd i
  place_in (suc k) x (y ∷ ys) z i = go (place_in k x ys z) (m.compare x y) i
    where
      more : (z ≡ x) ⊎ In z ys → (z ≡ x) ⊎ In z (y ∷ ys)
      more (inl e) = inl e
      more (inr j) = inr (inr j)

      go : (In z (place m k x ys) → (z ≡ x) ⊎ In z ys) → (o : Ordering) → In z (choose o (x ∷ take k (y ∷ ys)) (y ∷ ys) (y ∷ place m k x ys)) → (z ≡ x) ⊎ In z (y ∷ ys)
      go ih Less (inl e) = inl e
      go ih Less (inr j) = inr (in_take k (y ∷ ys) z j)
      go ih Equal j = inr j
      go ih Greater (inl e) = inr (inl e)
      go ih Greater (inr j) = more (ih j)

  pub place_short : (k : ℕ) (x : V) (row : List V) → length row ≤ k → length (place m k x row) ≤ k
  place_short zero x row h = omega arith
  place_short (suc k) x [] h = omega arith
  place_short (suc k) x (y ∷ ys) h = go (place_short k x ys (omega arith)) (m.compare x y)
    where
      go : length (place m k x ys) ≤ k → (o : Ordering) → length (choose o (x ∷ take k (y ∷ ys)) (y ∷ ys) (y ∷ place m k x ys)) ≤ suc k
      go ih Less = omega (arith, length-take k (y ∷ ys))
      go ih Equal = h
      go ih Greater = omega arith

  above_all : (y : V) (xs : List V) → ((z : V) → In z xs → Before m y z) → BeforeAll m y xs
  above_all y [] h = tt
  above_all y (x ∷ xs) h = (h x (inl refl), above_all y xs (λ z i. h z (inr i)))

  pub place_ascending : (k : ℕ) (x : V) (row : List V) → Ascending m row → Ascending m (place m k x row)
  place_ascending zero x row h = tt
  place_ascending (suc k) x [] h = (tt, tt)
  place_ascending (suc k) x (y ∷ ys) h = go (place_ascending k x ys h.1) (m.compare x y) refl
    where
      later : Before m y x → (z : V) → (z ≡ x) ⊎ In z ys → Before m y z
      later l z (inl e) = subst (Before m y) (sym e) l
      later l z (inr i) = above_in laws y z ys h.0 i

      go : Ascending m (place m k x ys) → (o : Ordering) → m.compare x y ≡ o → Ascending m (choose o (x ∷ take k (y ∷ ys)) (y ∷ ys) (y ∷ place m k x ys))
      go ih Less e = (above_take m k x (y ∷ ys) (e, above_trans laws x y ys e h.0), ascending_take m k (y ∷ ys) h)
      go ih Equal e = h
      go ih Greater e = (above_all y (place m k x ys) (λ z i. later (greater laws x y e) z (place_in k x ys z i)), ih)

  pub place_covers : (k : ℕ) (x : V) (row : List V) → Covers m k (place m k x row) x
  place_covers zero x row = tt
  place_covers (suc k) x [] = inl refl
  place_covers (suc k) x (y ∷ ys) = go (place_covers k x ys) (m.compare x y) refl
    where
      go : Covers m k (place m k x ys) x → (o : Ordering) → m.compare x y ≡ o → Covers m (suc k) (choose o (x ∷ take k (y ∷ ys)) (y ∷ ys) (y ∷ place m k x ys)) x
      go ih Less e = inl refl
      go ih Equal e = inl (laws.same x y e)
      go ih Greater e = inr (greater laws x y e, ih)

  pub place_keeps : (k : ℕ) (x : V) (row : List V) (z : V) → Covers m k row z → Covers m k (place m k x row) z
  place_keeps zero x row z c = tt
  place_keeps (suc k) x [] z c = absurd c
  place_keeps (suc k) x (y ∷ ys) z c = go (place_keeps k x ys z) (m.compare x y) refl c
    where
      first : Before m x y → Covers m (suc k) (y ∷ ys) z → Before m x z
      first l (inl e) = subst (Before m x) (sym e) l
      first l (inr h) = laws.transitive x y z l h.0

      go : (Covers m k ys z → Covers m k (place m k x ys) z) → (o : Ordering) → m.compare x y ≡ o → Covers m (suc k) (y ∷ ys) z → Covers m (suc k) (choose o (x ∷ take k (y ∷ ys)) (y ∷ ys) (y ∷ place m k x ys)) z
      go ih Less e d = inr (first e d, covers_take m k (y ∷ ys) z d)
      go ih Equal e d = d
      go ih Greater e (inl f) = inl f
      go ih Greater e (inr h) = inr (h.0, ih h.1)
