-- Paths: the walks that a trace hands out, and their order.
use Rattle.std.specs.Prelude.{◌≡◌, ℕ, ◌*◌, ◌<◌, ◌⊎◌, List, [], ◌∷◌, ◌++◌, length, Some, None, Option}
use Rattle.measure.specs.Algebra.{Algebra, Before}
use Rattle.walks.specs.Networks.{Network}
use Rattle.walks.specs.Walks.{Walk, walk_length, Counted}
use Rattle.walks.specs.Circuits.{NullCircuit}
use Rattle.walks.specs.Rows.{Table, In}
use Rattle.walks.specs.Method.{rows}
use Rattle.walks.specs.Solves.{settled, outcome}
use Rattle.walks.specs.Theorems.{Within}

-- Compared from the last arc backward, the lower arc number comes first. (Where one list is the front of the other it
-- comes first; among paths of one length that does not arise unless a null circuit is reached.)
abbrev pub Sooner : List ℕ → List ℕ → Type 0
Sooner w [] = ⊥
Sooner [] (b ∷ v) = Unit {0}
Sooner (a ∷ w) (b ∷ v) = (a < b) ⊎ ((a ≡ b) × Sooner w v)

-- the order of paths: by length, and among equal lengths by their arcs
abbrev pub Ahead : {V : Type 0} → Algebra V → Network V → List ℕ → List ℕ → Type 0
Ahead m net w v = Before m (walk_length m net w) (walk_length m net v) ⊎ ((walk_length m net w ≡ walk_length m net v) × Sooner w v)

-- it is a total order
pub record TotalOrder {V : Type 0} (m : Algebra V) (net : Network V) : Type 0 where
  pub never_itself : (u : List ℕ) → ¬ Ahead m net u u
  pub transitive : (u v w : List ℕ) → Ahead m net u v → Ahead m net v w → Ahead m net u w
  pub either : (u v : List ℕ) → Ahead m net u v ⊎ ((u ≡ v) ⊎ Ahead m net v u)

module _ {V : Type 0} (m : Algebra V) (net : Network V) (s : ℕ) (t : Table V) where
  -- the paths to j: the walks from s to j whose length is in the row of j
  pub record PathTo (j : ℕ) (w : List ℕ) : Type 0 where
    pub leads : Walk net s j w
    pub counted : Counted m net w
    pub inside : In (walk_length m net w) (t j)

  -- v comes after the last path, if there was one
  abbrev pub Since : Option (List ℕ) → List ℕ → Type 0
  Since None v = Unit {0}
  Since (Some w) v = Ahead m net w v

  -- w is the first path to j after the last one
  pub record Next (j : ℕ) (last : Option (List ℕ)) (w : List ℕ) : Type 0 where
    pub path : PathTo j w
    pub since : Since last w
    pub first : (v : List ℕ) → PathTo j v → Since last v → ¬ Ahead m net v w

  -- each of these is the next path after the one before it, and after them there is none
  abbrev pub Follow : ℕ → Option (List ℕ) → List (List ℕ) → Type 0
  Follow j last [] = (v : List ℕ) → PathTo j v → ¬ Since last v
  Follow j last (w ∷ ws) = Next j last w × Follow j (Some w) ws

  -- what the paths to the nodes are like
  pub record PathsRunThroughRows (k : ℕ) : Type 0 where
    -- every beginning of a path is a path to the node where it ends
    pub beginning : (j : ℕ) (u w : List ℕ) → PathTo j (u ++ w) → (i : ℕ) × (Walk net i j u × PathTo i w)
    -- where no null circuit is reached a path has fewer than N × K arcs
    pub few_arcs : ¬ NullCircuit m net s → (j : ℕ) (w : List ℕ) → PathTo j w → length w < net.nodes * k
    -- and no path is another with more arcs before it
    pub apart : ¬ NullCircuit m net s → (j a : ℕ) (u w : List ℕ) → PathTo j u → PathTo j (u ++ (a ∷ w)) → ¬ (walk_length m net u ≡ walk_length m net (u ++ (a ∷ w)))

module _ {V : Type 0} (m : Algebra V) where
  -- in every network
  abbrev pub PathsOrdered : Type 0
  PathsOrdered = (net : Network V) → TotalOrder m net

  -- so it is in every settled solve
  abbrev pub PathsInRows : Type 0
  PathsInRows = (net : Network V) (k s : ℕ) → Within m net k s → (p : ℕ) → outcome m net k s ≡ settled p → PathsRunThroughRows m net s (rows m net k s p) k
