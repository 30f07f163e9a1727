use Rattle.std.proofs.Common.{arith}
use Rattle.sweeps.proofs.Checking.{under_on, under_more, splits_end, splits_at, indexing_more}
use Rattle.sweeps.proofs.inspection.index.Goals.{then-loop-below-test+else-arcs-below, else-loop-below-test}
use Rattle.sweeps.proofs.inspection.index.Goals as goal

pub loop-below-preserved : goal.loop-below-preserved
loop-below-preserved g c = under_more _ _ _ c.loop-below.invariant (omega (arith, c.min-total.ensures)) c.if-arcs-below.true

pub loop-j-preserved : goal.loop-j-preserved
loop-j-preserved g c = (
  under_on _ _ _ c.loop-below.invariant,
  indexing_more _ _ _ _ c.loop-j.invariant.1 (omega (arith, c.loop-j-test.true)) (elim c.loop-below-test.branch [
    | then-loop-below-test+else-arcs-below w ↦ splits_at _ _ _ c.loop-below.invariant c.requires.ordered.sorted w.if-arcs-below.false
    | else-loop-below-test w ↦ splits_end _ _ _ c.loop-below.invariant (omega (arith, w.loop-below-test.false, c.min-total.ensures))
  ]),
)
