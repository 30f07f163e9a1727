-- Circuits that a walk reaches.
use Rattle.std.specs.Prelude.{◌≡◌, ℕ, List, ◌∷◌}
use Rattle.measure.specs.Algebra.{Algebra, Before}
use Rattle.walks.specs.Networks.{Network}
use Rattle.walks.specs.Walks.{Walk, walk_length, Counted}

module _ {V : Type 0} (m : Algebra V) (net : Network V) where
  -- A walk from s leads to a node, and a circuit there (a walk of at least one arc that ends where it starts) has a length
  -- that P admits. Both are walks that are spoken of.
  pub record ReachesCircuit (P : V → Type 0) (s : ℕ) : Type 0 where
    pub at : ℕ
    pub way : List ℕ
    pub leads : Walk net s at way
    pub way_counted : Counted m net way
    pub last : ℕ
    pub rest : List ℕ
    pub round : Walk net at at (last ∷ rest)
    pub counted : Counted m net (last ∷ rest)
    pub admitted : P (walk_length m net (last ∷ rest))

  -- a walk from s reaches a circuit before null
  abbrev pub NegativeCircuit : ℕ → Type 0
  NegativeCircuit s = ReachesCircuit (λ x. Before m x m.null) s

  -- a walk from s reaches a circuit whose length is null
  abbrev pub NullCircuit : ℕ → Type 0
  NullCircuit s = ReachesCircuit (λ x. x ≡ m.null) s
