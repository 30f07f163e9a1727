use Rattle.session.proofs.Following.{next_done, next_meant}
use Rattle.session.proofs.Holding.{parts_held}
use Rattle.session.proofs.stages.Trace.next.Goals as goal

pub returns : goal.returns
returns g c =
    let m = g.M.Measure.algebra in
    record {
      done = next_done m c.args.self.now c.args.work.now c.args.path.now c.next.new.self c.next.new.work c.next.new.path _ c.next.result c.next.ensures;
      meant = λ net k s t target handed h.
          next_meant m c.args.self.now c.args.work.now c.args.path.now c.next.new.self c.next.new.work c.next.new.path net k s t target handed c.args.arcs.now c.args.lengths.now c.args.values.now c.args.counts.now h
          c.parts.result.0.now c.parts.result.1.now c.next.result (parts_held m net c.args.self.now.settled.draft c.args.arcs.now c.parts.result.0.now c.args.lengths.now c.parts.result.1.now h.settled.draft c.parts.ensures.value) c.next.ensures;
    }
