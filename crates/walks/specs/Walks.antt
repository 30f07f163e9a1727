-- Walks and their lengths.
use Rattle.std.specs.Prelude.{◌≡◌, ℕ, ◌+◌, ◌^◌, ◌≤◌, List, [], ◌∷◌}
use Rattle.measure.specs.Algebra.{Algebra}
use Rattle.walks.specs.Networks.{Network, Open}

-- The walk w leads from s to j. A walk is the list of its arcs' numbers, THE LAST ARC FIRST: so it grows at
-- the front, and arcs are compared from the last one backward by reading the list from its front.
abbrev pub Walk : {V : Type 0} → Network V → ℕ → ℕ → List ℕ → Type 0
Walk net s j [] = s ≡ j
Walk net s j (a ∷ w) = Open net a × (net.end a ≡ j) × Walk net s (net.start a) w

module _ {V : Type 0} (m : Algebra V) (net : Network V) where
  -- null joined with the arcs' lengths, from the first to the last
  abbrev pub walk_length : List ℕ → V
  walk_length [] = m.null
  walk_length (a ∷ w) = m.plus (walk_length w) (net.arc_length a)

  -- the sum of the arcs' magnitudes
  abbrev pub weight : List ℕ → ℕ
  weight [] = 0
  weight (a ∷ w) = weight w + m.magnitude (net.arc_length a)

  -- the walks that are spoken of: all joins along them are present
  abbrev pub Counted : List ℕ → Type 0
  Counted w = weight w ≤ 2 ^ 62
