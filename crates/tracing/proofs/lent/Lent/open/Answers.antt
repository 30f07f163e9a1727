use Rattle.tracing.proofs.Advancing.{open_some, open_none}
use Rattle.tracing.proofs.lent.Lent.open.Goals as goal

pub returns-in_err-depth : goal.returns-in_err-depth
returns-in_err-depth g c = rw c.from_residual-in_err-depth.ensures (open_none g.met.M.Measure.lawful _ _ _ _ c.in_ok-value.ensures.0 c.in_err-depth.ensures c.descend.auto.work)

pub returns : goal.returns
returns g c = open_some g.met.M.Measure.lawful _ _ c.args.work.now _ _ c.in_ok-value.ensures.0 c.in_ok-depth.ensures
