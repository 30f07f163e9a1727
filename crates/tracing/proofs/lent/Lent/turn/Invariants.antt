use Rattle.std.proofs.Common.{◌≡◌}
use Rattle.tracing.specs.Labels.{read}
use Rattle.tracing.proofs.Turning.{Dropping}
use Rattle.tracing.proofs.lent.Lent.turn.Given as goal

abbrev pub invariant-loop-i : goal.invariant-loop-i
invariant-loop-i g l = (l.work ≡ l.initial.work) × Dropping g.M.Measure.algebra (read l.self) l.from l.depth l.work l.i
