use Rattle.tracing.specs.Labels.{read}
use Rattle.tracing.proofs.Turning.{Going}
use Rattle.tracing.proofs.lent.Lent.descend.Given as goal

abbrev pub invariant-loop-depth : goal.invariant-loop-depth
invariant-loop-depth g l = Going g.M.Measure.algebra (read l.self) l.fn.from l.work l.depth l.here
