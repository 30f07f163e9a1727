use Rattle.std.proofs.Common.{length}
use Rattle.sweeps.specs.Tables.{network}
use Rattle.sweeps.proofs.Checking.{Checked}
use Rattle.sweeps.proofs.inspection.in_order.Given as goal

abbrev pub invariant-loop-arc : goal.invariant-loop-arc
invariant-loop-arc g l = Checked g.M.Measure.algebra (network g.M.Measure.algebra l.nodes l.arcs l.lengths) (length l.yielded) l.last
