use Rattle.std.proofs.Common.{refl, arith}
use Rattle.tracing.proofs.Turning.{dropping_none, turn_some, turn_less}
use Rattle.tracing.proofs.lent.Lent.turn.Goals as goal

pub loop-i-init : goal.loop-i-init
loop-i-init g c = (refl, dropping_none g.M.Measure.algebra _ _ _ _ c.requires)

pub returns-in-Some : goal.returns-in-Some
returns-in-Some g c =
    let z = c.loop-i.invariant.1.size in
    (omega arith, omega arith, turn_some g.M.Measure.algebra _ _ _ _ _ _ _ _ c.loop-i.invariant.0 (omega (arith, c.requires)) (omega arith) c.loop-i.invariant.1 c.end-at.ensures c.in-Some.ensures)

pub loop-i-preserved : goal.loop-i-preserved
loop-i-preserved g c = (c.loop-i.invariant.0, turn_less g.M.Measure.algebra _ _ _ _ _ _ (omega (arith, c.requires)) (omega arith) c.loop-i.invariant.1 c.end-at.ensures c.in_default.ensures)
