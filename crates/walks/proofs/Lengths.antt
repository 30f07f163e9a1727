-- Lengths and weights of walks.
use Rattle.std.proofs.Common.{◌≡◌, ℕ, ◌+◌, ◌*◌, ◌^◌, ◌≤◌, List, [], ◌∷◌, ◌++◌, length, sym, ap, ◌∙◌, subst, arith}
use Rattle.measure.specs.Algebra.{Algebra, Laws}
use Rattle.walks.specs.Networks.{Network, WellFormed}
use Rattle.walks.specs.Walks.{Walk, walk_length, weight, Counted}

module _ {V : Type 0} (net : Network V) where
  pub walk_append : (s v j : ℕ) (u t : List ℕ) → Walk net v j u → Walk net s v t → Walk net s j (u ++ t)
  walk_append s v j [] t h k = subst (λ x. Walk net s x t) h k
  walk_append s v j (a ∷ u) t h k = (h.0, h.1, walk_append s v (net.start a) u t h.2 k)

module _ {V : Type 0} {m : Algebra V} (laws : Laws m) (net : Network V) where
  pub weight_append : (u t : List ℕ) → weight m net (u ++ t) ≡ weight m net t + weight m net u
  weight_append [] t = omega arith
  weight_append (a ∷ u) t = omega (arith, weight_append u t)

  pub magnitude_walk : (w : List ℕ) → Counted m net w → m.magnitude (walk_length m net w) ≤ weight m net w
  magnitude_walk [] h = omega (arith, laws.null_magnitude)
  magnitude_walk (a ∷ w) h =
      let ih = magnitude_walk w (omega arith) in
      let e = laws.subadditive (walk_length m net w) (net.arc_length a) (omega arith) in
      omega arith

  pub walk_length_append : (u t : List ℕ) → Counted m net (u ++ t) → walk_length m net (u ++ t) ≡ m.plus (walk_length m net t) (walk_length m net u)
  walk_length_append [] t h = sym (laws.null_right (walk_length m net t))
  walk_length_append (a ∷ u) t h =
      let e = weight_append u t in
      let x = magnitude_walk u (omega arith) in
      let y = magnitude_walk t (omega arith) in
      ap (λ v. m.plus v (net.arc_length a)) (walk_length_append u t (omega arith)) ∙ laws.associative (walk_length m net t) (walk_length m net u) (net.arc_length a) (omega arith)

  pub weight_small : (s j : ℕ) (w : List ℕ) → WellFormed m net → Walk net s j w → weight m net w ≤ length w * 10 ^ 9
  weight_small s j [] formed h = omega arith
  weight_small s j (a ∷ w) formed h =
      let p = formed a h.0 in
      omega (arith, weight_small s (net.start a) w formed h.2)
