use Rattle.std.proofs.Common.{◌≡◌, ◌+◌, ◌-◌, length, sym, ap, ◌∙◌, arith}
use Rattle.sweeps.specs.Tables.{start_of}
use Rattle.sweeps.proofs.Working.{worked_none, worked_some}
use Rattle.sweeps.proofs.nodes.work_arc.Goals as goal
use Rattle.sweeps.proofs.nodes.work_arc.Goals.{in-Some, in_default}

pub loop-p-preserved : goal.loop-p-preserved
loop-p-preserved g c =
    let m = g.M.Measure.algebra in
    let p = c.args in
    let l = c.loop-p in
    elim c.match-join.branch [
      | in-Some w ↦
          let whole : start_of p.k p.to + p.k - start_of p.k p.to ≡ p.k = omega arith in
          simp (w.values-is, w.row-is)
          (worked_some m p.k p.from p.held p.to p.row.now.held p.row.now.changed p.x p.values.now c.requires l.p l.row.held l.row.changed l.values _ _ _ _ _ _ _ g.met.M.Measure.lawful
          c.loop-p-test.true l.invariant c.index-values-source.is (sym c.join.ensures ∙ w.in-Some.is) whole (sym (ap length w.values-is) ∙ c.match-join.auto.values) w.place.auto.row w.place.ensures)
      | in_default w ↦
          simp (w.values-is, w.row-is)
          (worked_none m p.k p.from p.held p.to p.row.now.held p.row.now.changed p.x p.values.now c.requires l.p l.row.held l.row.changed l.values _
          c.loop-p-test.true l.invariant c.index-values-source.is (sym c.join.ensures ∙ w.in_default.is))
    ]
