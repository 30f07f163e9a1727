use Rattle.std.proofs.Common.{suc, length, refl, ap, arith}
use Rattle.std.proofs.lemmas.List.{length_push}
use Rattle.sweeps.specs.Tables.{network, no_arc}
use Rattle.sweeps.proofs.Sides.{sides_turn, sides_end}
use Rattle.sweeps.proofs.Checking.{checked_more, checked_all, checked_falls, fits_proper, proper_fits}
use Rattle.sweeps.proofs.inspection.in_order.Goals.{then-not-fits-via-then-not-fits, then-not-fits-via-else-not-fits+then-arc-last}
use Rattle.sweeps.proofs.inspection.in_order.Goals as goal

pub returns-then-not-fits : goal.returns-then-not-fits
returns-then-not-fits g c = λ order.
    let m = g.M.Measure.algebra in
    let arcs = c.args.arcs.now in
    let lengths = c.args.lengths.now in
    let n = length c.loop-arc.yielded in
    let turn = sides_turn c.into_iter-arc-iterator.ensures.into_iter_gives c.zip-arc-items.ensures.first c.iter.ensures.rest c.zip-arc-items.ensures.second.0 c.loop-arc.yielded c.loop-arc.arc-iterator c.next.new.self c.loop-arc.yielded_by (c.in-Some.arc, c.in-Some.x) c.in-Some.is c.next.ensures.steps in
    let arc_is = turn.2 no_arc in
    let x_is = turn.3 m.null in
    elim c.then-not-fits.branch [
      | then-not-fits-via-then-not-fits w ↦ w.if-not-fits.ensures (proper_fits m c.args.nodes arcs lengths n _ _ arc_is x_is (order.proper (suc n) (omega arith) (omega (arith, turn.0, turn.1))))
      | then-not-fits-via-else-not-fits+then-arc-last w ↦
          checked_falls m (network m c.args.nodes arcs lengths) n c.loop-arc.last _ refl (omega (arith, turn.0, turn.1)) c.loop-arc.invariant (ap (λ z. z.end) arc_is) w.if-arc-last.true order
    ]

pub loop-arc-preserved : goal.loop-arc-preserved
loop-arc-preserved g c =
    let m = g.M.Measure.algebra in
    let arcs = c.args.arcs.now in
    let lengths = c.args.lengths.now in
    let n = length c.loop-arc.yielded in
    let turn = sides_turn c.into_iter-arc-iterator.ensures.into_iter_gives c.zip-arc-items.ensures.first c.iter.ensures.rest c.zip-arc-items.ensures.second.0 c.loop-arc.yielded c.loop-arc.arc-iterator c.next.new.self c.loop-arc.yielded_by (c.in-Some.arc, c.in-Some.x) c.in-Some.is c.next.ensures.steps in
    let arc_is = turn.2 no_arc in
    let x_is = turn.3 m.null in
    checked_more m (network m c.args.nodes arcs lengths) n c.loop-arc.last _ _ c.loop-arc.invariant (length_push c.loop-arc.yielded (c.in-Some.arc, c.in-Some.x)) (ap (λ z. z.end) arc_is)
    (fits_proper m c.args.nodes arcs lengths n _ _ arc_is x_is (c.if-not-fits.ensures {u = tt})) c.if-arc-last.false

pub returns : goal.returns
returns g c =
    checked_all _ _ _ _ (sides_end c.into_iter-arc-iterator.ensures.into_iter_gives c.zip-arc-items.ensures.first c.iter.ensures.rest c.zip-arc-items.ensures.second.0 c.loop-arc.yielded c.loop-arc.arc-iterator c.next.new.self c.loop-arc.yielded_by c.in-None.is c.next.ensures.steps) c.loop-arc.invariant
