-- The first way back from a label, and the next after a way.
use Rattle.std.proofs.Common.{◌≡◌, ℕ, List, [], ◌∷◌, sym, refl, subst, inl, inr, arith}
use Rattle.walks.specs.Paths.{Sooner}
use Rattle.walks.specs.Ways.{Soonest, Way, Later, Last, Lowest, NoneAbove, Steady, Stepwise}

module _ {L : Type 0} {Back : L → ℕ → L → Type 0} {Home : L → Type 0} {cells : ℕ} (steady : Steady Back Home cells) where
  -- an arc that is the same leads back to labels with the same ways
  again : (x y z : L) (a b : ℕ) (v : List ℕ) → Back x a y → b ≡ a → Back x b z → Way Back Home z v → Way Back Home y v
  again x y z a b v k e j w = steady.once x y z a v k (subst (λ c. Back x c z) e j) w

  first : (x y : L) (a : ℕ) (w : List ℕ) → Lowest Back Home x 0 a y → Soonest (Way Back Home y) w → Soonest (Way Back Home x) (a ∷ w)
  first x y a w low h = record { holds = (y, (low.leads, h.holds)); first = none }
    where
      none : (v : List ℕ) → Way Back Home x v → ¬ Sooner v (a ∷ w)
      none [] p l = steady.ends x y a p low.leads
      none (b ∷ v) p (inl l) = low.between b p.0 (steady.numbered x p.0 b p.1.0) l p.1.0
      none (b ∷ v) p (inr e) = h.first v (again x y p.0 a b v low.leads e.0 p.1.0 p.1.1) e.1

  next_none : (x y : L) (a : ℕ) (w : List ℕ) → Back x a y → Last Back Home y w → NoneAbove Back Home x a → Last Back Home x (a ∷ w)
  next_none x y a w k last none [] p l = l
  next_none x y a w k last none (c ∷ v) p (inl l) = none c p.0 l p.1.0
  next_none x y a w k last none (c ∷ v) p (inr e) = last v (again x y p.0 a c v k (sym e.0) p.1.0 p.1.1) e.1

  home_last : (x : L) → Home x → Last Back Home x []
  home_last x h [] p l = l
  home_last x h (c ∷ v) p l = steady.ends x p.0 c h p.1.0

  next_turns : (x y z : L) (a b : ℕ) (w v : List ℕ) → Back x a y → Last Back Home y w → Lowest Back Home x a b z → Soonest (Way Back Home z) v → Soonest (Later Back Home x (a ∷ w)) (b ∷ v)
  next_turns x y z a b w v k last low h = record { holds = ((z, (low.leads, h.holds)), inl low.above); first = λ t p q. none t p.0 p.1 q }
    where
      none : (t : List ℕ) → Way Back Home x t → Sooner (a ∷ w) t → ¬ Sooner t (b ∷ v)
      none [] p l q = l
      none (c ∷ t) p (inl l) (inl q) = low.between c p.0 l q p.1.0
      none (c ∷ t) p (inl l) (inr q) = h.first t (again x z p.0 b c t low.leads q.0 p.1.0 p.1.1) q.1
      none (c ∷ t) p (inr l) q = last t (again x y p.0 a c t k (sym l.0) p.1.0 p.1.1) l.1

  next_keeps : (x y : L) (a : ℕ) (w v : List ℕ) → Back x a y → Soonest (Later Back Home y w) v → Soonest (Later Back Home x (a ∷ w)) (a ∷ v)
  next_keeps x y a w v k h = record { holds = ((y, (k, h.holds.0)), inr (refl, h.holds.1)); first = λ t p q. none t p.0 p.1 q }
    where
      none : (t : List ℕ) → Way Back Home x t → Sooner (a ∷ w) t → ¬ Sooner t (a ∷ v)
      none [] p l q = l
      none (c ∷ t) p (inl l) (inl q) = omega arith
      none (c ∷ t) p (inl l) (inr q) = omega (arith, q.0)
      none (c ∷ t) p (inr l) (inl q) = omega (arith, l.0)
      none (c ∷ t) p (inr l) (inr q) = h.first t (again x y p.0 a c t k q.0 p.1.0 p.1.1, l.1) q.1

  pub stepwise : Stepwise Back Home
  stepwise = record { home_first = λ x h. record { holds = h; first = λ v p l. l }; home_last = home_last; first = first; next_keeps = next_keeps; next_turns = next_turns; next_none = next_none }
