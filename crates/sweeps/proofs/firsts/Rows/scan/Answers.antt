use Rattle.std.proofs.Common.{subst, arith}
use Rattle.sweeps.specs.Inwards.{net_of}
use Rattle.sweeps.specs.Ranks.{FreeOr}
use Rattle.sweeps.proofs.Ranking.{part_held, part_shut, part_free}
use Rattle.sweeps.proofs.firsts.Rows.scan.Goals as goal
use Rattle.sweeps.proofs.firsts.Rows.scan.Goals.{then-ranks-i-eq0+then-free, else-ranks-i-eq0, else-ranks-i-eq0-via-then-ranks-i-eq0+else-free, else-ranks-i-eq0-via-else-ranks-i-eq0}

pub loop-i-preserved : goal.loop-i-preserved
loop-i-preserved g c =
    let m = g.M.Measure.algebra in
    let p = c.args.self.now in
    let net = net_of m p.net.now in
    elim c.if-ranks-i-eq0.branch [
      | then-ranks-i-eq0+then-free w ↦
          simp (w.ranks-is, w.total-is)
          (part_free m net p.k p.values.now p.counts.now p.net.now.known.ordered _ _ _ _ (omega arith) w.if-ranks-i-eq0.true c.loop-i.invariant (subst (FreeOr m net p.k p.values.now p.counts.now _ _) w.if-free.true w.free.ensures))
      | else-ranks-i-eq0 w ↦ simp (w.ranks-is, w.total-is) (elim w.else-ranks-i-eq0.branch [
        | else-ranks-i-eq0-via-then-ranks-i-eq0+else-free v ↦
            part_shut m net p.k p.values.now p.counts.now _ _ _ _ c.loop-i.invariant (subst (FreeOr m net p.k p.values.now p.counts.now _ _) v.if-free.false v.free.ensures)
        | else-ranks-i-eq0-via-else-ranks-i-eq0 v ↦ part_held m net p.k p.values.now p.counts.now _ _ _ _ c.loop-i.invariant v.if-ranks-i-eq0.false
      ])
    ]
