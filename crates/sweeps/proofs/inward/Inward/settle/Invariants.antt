use Rattle.std.proofs.Common.{◌-◌}
use Rattle.sweeps.specs.Inwards.{net_of}
use Rattle.sweeps.specs.Passes.{Bounds}
use Rattle.sweeps.proofs.Standing.{Stands}
use Rattle.sweeps.proofs.inward.Inward.settle.Given as goal

abbrev pub invariant-loop-done : goal.invariant-loop-done
invariant-loop-done g l = (b : Bounds l.self.nodes l.order.k l.order.source) → Stands g.M.Measure.algebra (net_of g.M.Measure.algebra l.self) l.order.k l.order.source b l.values l.counts (l.done - 1)
