use Rattle.std.proofs.Common.{refl}
use Rattle.session.proofs.Answering.{solve_done, solve_meant}
use Rattle.session.proofs.stages.Draft.solve.Goals as goal

pub returns-in-Ok : goal.returns-in-Ok
returns-in-Ok g c =
    let m = g.M.Measure.algebra in
    record {
      done = solve_done m c.args.self c.args.order c.args.values.now c.args.counts.now _ c.solve.new.values c.solve.new.counts _ _ _ c.in-Ok.ensures (refl, refl, refl, refl);
      meant = λ net h. solve_meant m c.args.self c.args.order c.args.values.now c.args.counts.now _ c.solve.new.values c.solve.new.counts g.met.M.Measure.lawful net c.args.arcs.now c.args.lengths.now h _ _ _ (c.parts.ensures.meant net h) c.in-Ok.ensures (refl, refl, refl, refl);
    }
