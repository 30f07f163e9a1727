-- The list of all paths to a node, as it is computed: for each length of the row, a search backward over the arcs.
use Rattle.std.specs.Prelude.{◌≡◌, ℕ, zero, suc, ◌*◌, Bool, true, false, ◌&&◌, List, [], ◌∷◌, ◌++◌, None, ◌==◌}
use Rattle.measure.specs.Algebra.{Algebra}
use Rattle.walks.specs.Networks.{Network}
use Rattle.walks.specs.Circuits.{NullCircuit}
use Rattle.walks.specs.Rows.{Table, In}
use Rattle.walks.specs.Method.{choose, rows}
use Rattle.walks.specs.Solves.{settled, outcome}
use Rattle.walks.specs.Theorems.{Within}
use Rattle.walks.specs.Paths.{Ahead, PathTo, Follow}

-- these, or none
abbrev pub only : Bool → List (List ℕ) → List (List ℕ)
only true ws = ws
only false ws = []

-- the arc a after each of these walks
abbrev pub each : ℕ → List (List ℕ) → List (List ℕ)
each a [] = []
each a (w ∷ ws) = (a ∷ w) ∷ each a ws

module _ {V : Type 0} (m : Algebra V) (net : Network V) (s : ℕ) (t : Table V) where
  -- what `find` gives for the value of the row whose join with l is x
  abbrev pub through : (V → List (List ℕ)) → List V → V → V → List (List ℕ)
  through find [] l x = []
  through find (u ∷ us) l x = choose (m.compare (m.plus u l) x) (through find us l x) (find u) (through find us l x)

  -- the walks to j of length x whose last arc is one of 1 to a, in order
  abbrev pub over : (ℕ → V → List (List ℕ)) → ℕ → V → ℕ → List (List ℕ)
  over find j x zero = []
  over find j x (suc a) = over find j x a ++ only (net.is_open (suc a) && net.end (suc a) == j) (each (suc a) (through (find (net.start (suc a))) (t (net.start (suc a))) (net.arc_length (suc a)) x))

  -- the walk without arcs, if it has length x and leads to j
  abbrev pub empty_walk : ℕ → V → List (List ℕ)
  empty_walk j x = only (s == j && choose (m.compare m.null x) false true false) ([] ∷ [])

  -- the walks to j of length x with fewer than n arcs, in order
  abbrev pub walks_of : ℕ → ℕ → V → List (List ℕ)
  walks_of zero j x = []
  walks_of (suc n) j x = empty_walk j x ++ over (walks_of n) j x net.arcs

  -- the same for each of these lengths in turn
  abbrev pub traced_of : ℕ → ℕ → List V → List (List ℕ)
  traced_of n j [] = []
  traced_of n j (x ∷ xs) = walks_of n j x ++ traced_of n j xs

  -- the paths to j
  abbrev pub traced : ℕ → ℕ → List (List ℕ)
  traced k j = traced_of (net.nodes * k) j (t j)

  -- each is ahead of all that come later
  abbrev pub InOrder : List (List ℕ) → Type 0
  InOrder [] = Unit {0}
  InOrder (w ∷ ws) = ((v : List ℕ) → In v ws → Ahead m net w v) × InOrder ws

  -- the list has all paths to j, in order, each once
  pub record ListsPaths (j : ℕ) (ws : List (List ℕ)) : Type 0 where
    pub all : (w : List ℕ) → PathTo m net s t j w → In w ws
    pub paths : (w : List ℕ) → In w ws → PathTo m net s t j w
    pub in_order : InOrder ws
    pub follow : Follow m net s t j None ws

-- in every settled solve where no null circuit is reached
abbrev pub TracedInOrder : {V : Type 0} → Algebra V → Type 0
TracedInOrder {V} m = (net : Network V) (k s : ℕ) → Within m net k s → (p : ℕ) → outcome m net k s ≡ settled p → ¬ NullCircuit m net s
    → (j : ℕ) → ListsPaths m net s (rows m net k s p) j (traced m net s (rows m net k s p) k j)
