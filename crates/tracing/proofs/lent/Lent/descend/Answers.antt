use Rattle.std.proofs.Common.{arith}
use Rattle.tracing.proofs.Turning.{going_more, going_home, going_stuck, going_ends}
use Rattle.tracing.proofs.lent.Lent.descend.Goals as goal

pub returns-then-home : goal.returns-then-home
returns-then-home g c = (c.loop-depth.invariant.size, going_home g.M.Measure.algebra _ _ _ _ _ c.loop-depth.invariant c.if-home.ensures)

pub returns-in_err-step : goal.returns-in_err-step
returns-in_err-step g c = rw c.from_residual.ensures (going_stuck g.M.Measure.algebra _ _ _ _ _ c.loop-depth.invariant c.if-home.ensures c.in_err-step.ensures)

pub loop-depth-preserved : goal.loop-depth-preserved
loop-depth-preserved g c = going_more g.M.Measure.algebra _ _ _ _ _ _ _ (omega arith) c.back-here.ensures c.loop-depth.invariant c.in_ok-step.ensures

pub returns : goal.returns
returns g c = rw c.then_some.ensures (going_ends g.M.Measure.algebra _ _ _ _ _ _ c.loop-depth.invariant (omega arith) c.home-2.ensures)
