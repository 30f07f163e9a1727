-- Rows that cover values.
use Rattle.std.proofs.Common.{◌≡◌, ℕ, zero, suc, ◌<◌, ◌≤◌, List, [], ◌∷◌, length, sym, refl, subst, ap₂, inl, inr, arith}
use Rattle.measure.specs.Algebra.{Algebra, Laws, Before}
use Rattle.walks.specs.Rows.{In, BeforeAll, Ascending, Covers}
use Rattle.walks.proofs.Orders.{never, before_not}

module _ {V : Type 0} {m : Algebra V} (laws : Laws m) where
  pub above_in : (y z : V) (ys : List V) → BeforeAll m y ys → In z ys → Before m y z
  above_in y z [] h i = absurd i
  above_in y z (x ∷ xs) h (inl e) = subst (Before m y) (sym e) h.0
  above_in y z (x ∷ xs) h (inr i) = above_in y z xs h.1 i

  pub above_trans : (x y : V) (ys : List V) → Before m x y → BeforeAll m y ys → BeforeAll m x ys
  above_trans x y [] l h = tt
  above_trans x y (z ∷ zs) l h = (laws.transitive x y z l h.0, above_trans x y zs l h.1)

  pub covers_in : (k : ℕ) (row : List V) (x : V) → Ascending m row → length row ≤ k → In x row → Covers m k row x
  covers_in zero row x up short i = tt
  covers_in (suc k) [] x up short i = i
  covers_in (suc k) (y ∷ ys) x up short (inl e) = inl e
  covers_in (suc k) (y ∷ ys) x up short (inr i) = inr (above_in y x ys up.0 i, covers_in k ys x up.1 (omega arith) i)

  -- a head that covers y is before what y is before
  pub head_before : (k : ℕ) (z : V) (zs : List V) (y x : V) → Covers m (suc k) (z ∷ zs) y → Before m y x → Before m z x
  head_before k z zs y x (inl e) l = subst (λ v. Before m v x) e l
  head_before k z zs y x (inr h) l = laws.transitive z y x h.0 l

  pub tail_covers : (k : ℕ) (z : V) (zs : List V) (x : V) → Before m z x → Covers m (suc k) (z ∷ zs) x → Covers m k zs x
  tail_covers k z zs x l (inl e) = never laws x (subst (λ v. Before m v x) (sym e) l)
  tail_covers k z zs x l (inr h) = h.1

  -- a row that covers what f makes of another row's values covers what f makes of any value that row covers
  module _ (G : V → Type 0) (f : V → V) (mono : (a b : V) → G a → G b → Before m a b → Before m (f a) (f b)) where
    pub carry : (k : ℕ) (row new : List V) (x : V) → Ascending m row → ((y : V) → In y row → G y) → G x → ((y : V) → In y row → Covers m k new (f y)) → Covers m k row x → Covers m k new (f x)
    carry zero row new x up good gx all c = tt
    carry (suc k) [] new x up good gx all c = absurd c
    carry (suc k) (y ∷ ys) new x up good gx all (inl e) = rw e (all y (inl refl))
    carry (suc k) (y ∷ ys) [] x up good gx all (inr c) = all y (inl refl)
    carry (suc k) (y ∷ ys) (z ∷ zs) x up good gx all (inr c) =
        let gy = good y (inl refl) in
        let here = all y (inl refl) in
        inr (
          head_before k z zs (f y) (f x) here (mono y x gy gx c.0),
          carry k ys zs x up.1 (λ v i. good v (inr i)) gx
              (λ v i. tail_covers k z zs (f v) (head_before k z zs (f y) (f v) here (mono y v gy (good v (inr i)) (above_in y v ys up.0 i))) (all v (inr i)))
              c.1,
        )

  -- two rows that cover each other's values are the same
  pub unique : (k : ℕ) (xs ys : List V) → Ascending m xs → Ascending m ys → length xs ≤ k → length ys ≤ k
      → ((v : V) → In v xs → Covers m k ys v) → ((v : V) → In v ys → Covers m k xs v) → xs ≡ ys
  unique k [] [] ux uy sx sy cx cy = refl
  unique zero [] (y ∷ ys) ux uy sx sy cx cy = absurd (omega arith)
  unique zero (x ∷ xs) ys ux uy sx sy cx cy = absurd (omega arith)
  unique (suc k) [] (y ∷ ys) ux uy sx sy cx cy = absurd (cy y (inl refl))
  unique (suc k) (x ∷ xs) [] ux uy sx sy cx cy = absurd (cx x (inl refl))
  unique (suc k) (x ∷ xs) (y ∷ ys) ux uy sx sy cx cy =
      ap₂ ◌∷◌ (heads (cx x (inl refl)) (cy y (inl refl)))
      (unique k xs ys ux.1 uy.1 (omega arith) (omega arith)
      (λ v i. tail_covers k y ys v (head_before k y ys x v (cx x (inl refl)) (above_in x v xs ux.0 i)) (cx v (inr i)))
      (λ v i. tail_covers k x xs v (head_before k x xs y v (cy y (inl refl)) (above_in y v ys uy.0 i)) (cy v (inr i))))
    where
      heads : Covers m (suc k) (y ∷ ys) x → Covers m (suc k) (x ∷ xs) y → x ≡ y
      heads (inl e) d = e
      heads (inr h) (inl e) = sym e
      heads (inr h) (inr d) = before_not laws x y d.0 h.0

module _ {V : Type 0} (m : Algebra V) where
  -- at least k values of the row are before x
  abbrev pub Rank : ℕ → List V → V → Type 0
  Rank zero row x = Unit {0}
  Rank (suc k) [] x = ⊥
  Rank (suc k) (y ∷ ys) x = Before m y x × Rank k ys x

module _ {V : Type 0} {m : Algebra V} (laws : Laws m) where
  pub rank_covers : (k : ℕ) (row : List V) (x : V) → Rank m k row x → Covers m k row x
  rank_covers zero row x r = tt
  rank_covers (suc k) [] x r = r
  rank_covers (suc k) (y ∷ ys) x r = inr (r.0, rank_covers k ys x r.1)

  pub rank_up : (i k : ℕ) (row : List V) (y z : V) → i < k → Covers m k row y → Before m y z → Rank m i row y → Rank m (suc i) row z
  rank_up i zero row y z l c b r = absurd (omega arith)
  rank_up i (suc k) [] y z l c b r = c
  rank_up zero (suc k) (x ∷ xs) y z l c b r = (head_before laws k x xs y z c b, tt)
  rank_up (suc i) (suc k) (x ∷ xs) y z l c b r =
      (head_before laws k x xs y z c b, rank_up i k xs y z (omega arith) (tail_covers laws k x xs y r.0 c) b r.1)
