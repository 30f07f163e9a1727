use Rattle.std.proofs.Common.{◌-◌}
use Rattle.sweeps.specs.Tables.{network}
use Rattle.sweeps.proofs.Checking.{Under, Indexing}
use Rattle.sweeps.proofs.inspection.index.Given as goal

abbrev pub invariant-loop-below : goal.invariant-loop-below
invariant-loop-below g l = Under (network g.M.Measure.algebra l.nodes l.arcs l.lengths) l.below l.j

abbrev pub decreases-loop-below : goal.decreases-loop-below
decreases-loop-below g l = l.total - l.below

abbrev pub invariant-loop-j : goal.invariant-loop-j
invariant-loop-j g l = Under (network g.M.Measure.algebra l.nodes l.arcs l.lengths) l.below l.j × Indexing (network g.M.Measure.algebra l.nodes l.arcs l.lengths) l.cell-items l.j
