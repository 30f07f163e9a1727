-- The laws of a measure made of two.
use Rattle.std.specs.Prelude.{◌≡◌, ℕ, ◌⊎◌, refl}
use Rattle.std.specs.declared.cmp.Ordering.TheVariants.{Less, Equal, Greater}
use Rattle.std.specs.declared.cmp.Ordering.{Ordering}
use Rattle.std.proofs.Common.{sym, ap, subst, ◌∙◌, inl, inr, ⊎_elim, arith}
use Rattle.std.specs.Ordering.{ordering_reverse}
use Rattle.measure.specs.declared.then.Then.{Then}
use Rattle.measure.specs.Algebra.{Algebra, Laws, Before}
use Rattle.measure.specs.Piles.{chained, then_algebra}

pub chained_equal : (o p : Ordering) → chained o p ≡ Equal → (o ≡ Equal) × (p ≡ Equal)
chained_equal Less p h = absurd (let z : ◌≡◌ {A = ℕ} 0 1 = cc in omega arith)
chained_equal Equal p h = (refl, h)
chained_equal Greater p h = absurd (let z : ◌≡◌ {A = ℕ} 0 1 = cc in omega arith)

pub chained_less : (o p : Ordering) → chained o p ≡ Less → (o ≡ Less) ⊎ ((o ≡ Equal) × (p ≡ Less))
chained_less Less p h = inl refl
chained_less Equal p h = inr (refl, h)
chained_less Greater p h = absurd (let z : ◌≡◌ {A = ℕ} 0 1 = cc in omega arith)

pub chained_reversed : (o p : Ordering) → chained (ordering_reverse o) (ordering_reverse p) ≡ ordering_reverse (chained o p)
chained_reversed Less p = refl
chained_reversed Equal p = refl
chained_reversed Greater p = refl

module _ {V W : Type 0} (m : Algebra V) (n : Algebra W) (l : Laws m) (k : Laws n) where
  -- a first part before, or the same first part and a second before
  by_first : (a b : Then V W) → Before m a.first b.first → Before (then_algebra m n) a b
  by_first a b h = ap (λ o. chained o (n.compare a.second b.second)) h

  by_second : (a b : Then V W) → m.compare a.first b.first ≡ Equal → Before n a.second b.second → Before (then_algebra m n) a b
  by_second a b e h = ap (λ o. chained o (n.compare a.second b.second)) e ∙ h

  trans : (a b c : Then V W) → Before (then_algebra m n) a b → Before (then_algebra m n) b c → Before (then_algebra m n) a c
  trans a b c p q =
      ⊎_elim
      (λ x. ⊎_elim (λ y. by_first a c (l.transitive _ _ _ x y)) (λ y. by_first a c (subst (Before m a.first) (l.same _ _ y.0) x)) (chained_less _ _ q))
      (λ x. ⊎_elim
      (λ y. by_first a c (subst (λ v. Before m v c.first) (sym (l.same _ _ x.0)) y))
      (λ y. by_second a c (subst (λ v. m.compare v c.first ≡ Equal) (sym (l.same _ _ x.0)) y.0) (k.transitive _ _ _ x.1 y.1))
      (chained_less _ _ q))
      (chained_less _ _ p)

  pub then_laws : Laws (then_algebra m n)
  then_laws = record {
    bounded = λ a. let x = l.bounded a.first in let y = k.bounded a.second in omega arith;
    same = λ a b e.
        let h = chained_equal _ _ e in
        let x = l.same a.first b.first h.0 in
        let y = k.same a.second b.second h.1 in
        (λ j. record { first = x j; second = y j });
    same_self = λ a. ap (λ o. chained o (n.compare a.second a.second)) (l.same_self a.first) ∙ k.same_self a.second;
    converse = λ a b. (λ j. chained (l.converse a.first b.first j) (k.converse a.second b.second j)) ∙ chained_reversed (m.compare a.first b.first) (n.compare a.second b.second);
    transitive = trans;
    associative = λ a b c h.
        let x = l.associative a.first b.first c.first (omega arith) in
        let y = k.associative a.second b.second c.second (omega arith) in
        (λ j. record { first = x j; second = y j });
    null_magnitude = let x = l.null_magnitude in let y = k.null_magnitude in omega arith;
    null_left = λ a. (λ j. record { first = l.null_left a.first j; second = k.null_left a.second j });
    null_right = λ a. (λ j. record { first = l.null_right a.first j; second = k.null_right a.second j });
    right_monotone = λ a b c p f g.
        ⊎_elim
        (λ x. by_first _ _ (l.right_monotone a.first b.first c.first x (omega arith) (omega arith)))
        (λ x. by_second _ _ (subst (λ v. m.compare (m.plus a.first c.first) (m.plus v c.first) ≡ Equal) (l.same _ _ x.0) (l.same_self _)) (k.right_monotone a.second b.second c.second x.1 (omega arith) (omega arith)))
        (chained_less _ _ p);
    left_monotone = λ a b c p f g.
        ⊎_elim
        (λ x. by_first _ _ (l.left_monotone a.first b.first c.first x (omega arith) (omega arith)))
        (λ x. by_second _ _ (subst (λ v. m.compare (m.plus c.first a.first) (m.plus c.first v) ≡ Equal) (l.same _ _ x.0) (l.same_self _)) (k.left_monotone a.second b.second c.second x.1 (omega arith) (omega arith)))
        (chained_less _ _ p);
    subadditive = λ a b f.
        let x = l.subadditive a.first b.first (omega arith) in
        let y = k.subadditive a.second b.second (omega arith) in
        omega arith;
  }
