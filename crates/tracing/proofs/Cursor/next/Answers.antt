use Rattle.std.proofs.Common.{refl}
use Rattle.tracing.proofs.Calling.{next_none, next_long, next_lost, next_some}
use Rattle.tracing.proofs.Cursor.next.Goals as goal

pub returns-in_err-found : goal.returns-in_err-found
returns-in_err-found g c = next_none g.met.M.Measure.lawful _ _ _ _ _ _ c.in_ok-lent.ensures c.advance.auto.work c.in_err-found.ensures _ c.from_residual-in_err-found.ensures

pub returns-then-found-path : goal.returns-then-found-path
returns-then-found-path g c = next_long g.met.M.Measure.lawful _ _ _ _ _ _ c.in_ok-lent.ensures c.advance.auto.work _ c.in_ok-found.ensures c.if-found-path.true _ refl

pub returns-in_err-length : goal.returns-in_err-length
returns-in_err-length g c = next_lost g.met.M.Measure.lawful _ _ _ _ _ _ c.in_ok-lent.ensures c.advance.auto.work _ c.in_ok-found.ensures c.in_err-length.ensures _ c.from_residual-in_err-length.ensures

pub returns : goal.returns
returns g c = next_some g.met.M.Measure.lawful _ _ _ _ _ _ c.in_ok-lent.ensures c.advance.auto.work _ c.in_ok-found.ensures _ _ c.in_ok-length.ensures.1 c.if-found-path.false c.write_path.auto.path c.write_path.ensures
