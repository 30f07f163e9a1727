use Rattle.std.proofs.Common.{get_or, sym, ap, ◌∙◌, subst, arith}
use Rattle.sweeps.proofs.Placing.{Seeks, first_low, first_past, next_less, placed_same, lands, shifts_none, shifts_more, placed_room, placed_full, tells_same}
use Rattle.sweeps.proofs.rows.Filling.place.Goals.{then-loop-at-test+else-after, else-loop-at-test, else-at-self-via-then-at-self+else-same, else-at-self-via-else-at-self}
use Rattle.sweeps.proofs.rows.Filling.place.Goals as goal

pub loop-at-init : goal.loop-at-init
loop-at-init g c =
    let m = g.M.Measure.algebra in
    let p = c.args in
    subst (Seeks m p.row.now p.self.now.held p.x) (sym c.first_cell-at.ensures)
    (record { low = first_low m p.row.now p.self.now.held p.self.now.changed p.x c.requires p.self.now.from c.args.self.now.within; past = first_past m p.row.now p.self.now.held p.self.now.changed p.x c.requires g.met.M.Measure.lawful p.self.now.from c.args.self.now.within })

pub returns-then-same : goal.returns-then-same
returns-then-same g c = placed_same _ _ _ _ _ c.requires _ _ c.loop-at.invariant c.if-at-self.true (tells_same _ c.if-same.ensures)

pub loop-cell-init : goal.loop-cell-init
loop-cell-init g c = (
  c.loop-at.invariant.low,
  (λ up. lands g.M.Measure.algebra c.args.row.now c.args.self.now.held c.args.self.now.changed c.args.x c.requires c.loop-at.at (c.loop-at.invariant.past up) (λ lt. elim c.loop-at-test.branch [
    | then-loop-at-test+else-after w ↦ elim c.else-at-self.branch [
      | else-at-self-via-then-at-self+else-same v ↦ next_less g.M.Measure.algebra c.args.row.now c.args.self.now.held c.args.self.now.changed c.args.x c.requires c.loop-at.at w.index-row-at.result v.index-row-at-then-at-self.result lt w.if-after.ensures v.if-same.ensures
      | else-at-self-via-else-at-self v ↦ absurd (omega (arith, v.if-at-self.false))
    ]
    | else-loop-at-test w ↦ absurd (omega (arith, w.loop-at-test.false))
  ])),
  shifts_none _ _,
)

pub loop-cell-preserved : goal.loop-cell-preserved
loop-cell-preserved g c =
    let read = c.replace-carry.ensures.value in (
      c.loop-cell.invariant.0,
      c.loop-cell.invariant.1,
      simp c.replace-carry.ensures.after (shifts_more _ _ _ _ _ _ c.loop-cell-test.true (read ∙ ap (get_or c.loop-cell.cell-items c.loop-cell.cell-index) (c.cell-item.is ∙ sym read)) c.loop-cell.invariant.2),
    )

pub returns-then-self-row : goal.returns-then-self-row
returns-then-self-row g c = placed_room _ _ _ _ _ c.requires _ _ _ _ c.loop-cell.invariant.0 c.loop-cell.invariant.1 c.loop-cell.invariant.2 c.loop-cell-test.false c.if-self-row.true

pub returns-else-self-row : goal.returns-else-self-row
returns-else-self-row g c = placed_full _ _ _ _ _ c.requires _ _ _ _ c.loop-cell.invariant.0 c.loop-cell.invariant.1 c.loop-cell.invariant.2 c.loop-cell-test.false c.if-self-row.false
