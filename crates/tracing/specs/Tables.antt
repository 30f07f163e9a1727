-- The tables that a trace reads.
use Rattle.std.specs.Prelude.{ℕ, ◌*◌, ◌≤◌, List, length}
use Rattle.sweeps.specs.declared.Arc.{Arc}

-- what a trace reads
pub record Tables (V : Type 0) : Type 0 where
  pub nodes : ℕ
  pub k : ℕ
  pub source : ℕ
  pub arcs : List Arc
  pub lengths : List V
  pub values : List V
  pub counts : List ℕ

abbrev pub tables : {V : Type 0} → ℕ → ℕ → ℕ → List Arc → List V → List V → List ℕ → Tables V
tables n k s arcs lengths values counts = record { nodes = n; k = k; source = s; arcs = arcs; lengths = lengths; values = values; counts = counts }

-- what the tables' sizes are to be
pub record Sizes {V : Type 0} (T : Tables V) : Type 0 where
  pub nodes : T.nodes ≤ 1000
  pub row : T.k ≤ 20
  pub beside : length T.arcs ≤ length T.lengths
  pub rows : T.nodes * T.k ≤ length T.values
  pub held : T.nodes ≤ length T.counts
