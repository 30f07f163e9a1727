-- The paths handed out are an initial segment of all.
use Rattle.std.proofs.Common.{◌≡◌, ℕ, ◌⊎◌, List, [], ◌∷◌, sym, subst, inl, inr}
use Rattle.measure.specs.Algebra.{Algebra, Laws}
use Rattle.walks.specs.Networks.{Network}
use Rattle.walks.specs.Rows.{Table, In}
use Rattle.walks.specs.Paths.{Ahead, TotalOrder, PathTo, Since, Next}
use Rattle.walks.proofs.Paths.{paths_ordered}
use Rattle.tracing.specs.Standing.{newest, HandedOut, Segment, Segments}

module _ {V : Type 0} {m : Algebra V} (laws : Laws m) (net : Network V) (s : ℕ) (t : Table V) (j : ℕ) where
  order : TotalOrder m net
  order = paths_ordered laws net

  -- what was handed out is ahead of what comes after the newest
  below : (ws : List (List ℕ)) → HandedOut m net s t j ws → (w : List ℕ) → Since m net s t (newest ws) w → (v : List ℕ) → In v ws → Ahead m net v w
  below [] h w z v i = absurd i
  below (x ∷ xs) h w z v (inl e) = subst (λ y. Ahead m net y w) (sym e) z
  below (x ∷ xs) h w z v (inr i) = order.transitive v x w (below xs h.1 x h.0.since v i) z

  more : (w : List ℕ) (ws : List (List ℕ)) → Next m net s t j (newest ws) w → HandedOut m net s t j ws → Segment m net s t j ws → Segment m net s t j (w ∷ ws)
  more w ws n g rest = record { paths = paths; in_order = (below ws g w n.since, rest.in_order); initial = λ v r. initial v r (rest.initial v r); apart = apart }
    where
      paths : (v : List ℕ) → In v (w ∷ ws) → PathTo m net s t j v
      paths v (inl e) = subst (PathTo m net s t j) (sym e) n.path
      paths v (inr i) = rest.paths v i

      initial : (v : List ℕ) → PathTo m net s t j v → In v ws ⊎ Since m net s t (newest ws) v → In v (w ∷ ws) ⊎ Ahead m net w v
      initial v r (inl i) = inl (inr i)
      initial v r (inr z) = go (order.either v w)
        where
          go : Ahead m net v w ⊎ ((v ≡ w) ⊎ Ahead m net w v) → In v (w ∷ ws) ⊎ Ahead m net w v
          go (inl a) = absurd (n.first v r z a)
          go (inr (inl e)) = inl (inl e)
          go (inr (inr a)) = inr a

      apart : (v : List ℕ) → In v (w ∷ ws) → ¬ Ahead m net w v
      apart v (inl e) z = order.never_itself w (subst (Ahead m net w) e z)
      apart v (inr i) z = order.never_itself v (order.transitive v w v (below ws g w n.since v i) z)

  segment : (ws : List (List ℕ)) → HandedOut m net s t j ws → Segment m net s t j ws
  segment [] h = record { paths = λ v i. absurd i; in_order = tt; initial = λ v r. inr tt; apart = λ v i z. i }
  segment (w ∷ ws) h = more w ws h.0 h.1 (segment ws h.1)

pub segments : {V : Type 0} {m : Algebra V} → Laws m → Segments m
segments laws net s t j ws h = segment laws net s t j ws h
