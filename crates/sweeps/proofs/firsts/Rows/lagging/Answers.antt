use Rattle.std.proofs.Common.{Less, ◌≡◌, suc, false, length, refl, sym, ap, ◌∙◌, subst, inl, inr, arith}
use Rattle.std.proofs.lemmas.Bool.{cases_eq}
use Rattle.std.proofs.lemmas.List.{length_push}
use Rattle.std.specs.Ordering.{is_lt}
use Rattle.sweeps.specs.Tables.{no_arc}
use Rattle.sweeps.specs.Inwards.{net_of}
use Rattle.sweeps.specs.Firsts.{told, over_at}
use Rattle.sweeps.proofs.Sides.{sides_turn}
use Rattle.sweeps.proofs.Checking.{proper_fits, over_read, told_by}
use Rattle.sweeps.proofs.firsts.Rows.lagging.Goals as goal

pub over-requires : goal.over-requires
over-requires g c =
    let m = g.M.Measure.algebra in
    let rows = c.args.self.now in
    let net = rows.net.now in
    let n = length c.loop-arc.yielded in
    let turn = sides_turn c.into_iter-arc-iterator.ensures.into_iter_gives c.zip-arc-items.ensures.first c.iter.ensures.rest c.zip-arc-items.ensures.second.0 c.loop-arc.yielded c.loop-arc.arc-iterator c.next.new.self c.loop-arc.yielded_by (c.in-Some.arc, c.in-Some.x) c.in-Some.is c.next.ensures.steps in
    let arc_is = turn.2 no_arc in
    let x_is = turn.3 m.null in
    proper_fits m net.nodes net.arcs.now net.lengths.now n _ _ arc_is x_is (net.known.ordered.proper (suc n) (omega arith) (omega (arith, turn.0, turn.1)))

pub returns-then-eq : goal.returns-then-eq
returns-then-eq g c =
    let m = g.M.Measure.algebra in
    let rows = c.args.self.now in
    let net = rows.net.now in
    let n = length c.loop-arc.yielded in
    let turn = sides_turn c.into_iter-arc-iterator.ensures.into_iter_gives c.zip-arc-items.ensures.first c.iter.ensures.rest c.zip-arc-items.ensures.second.0 c.loop-arc.yielded c.loop-arc.arc-iterator c.next.new.self c.loop-arc.yielded_by (c.in-Some.arc, c.in-Some.x) c.in-Some.is c.next.ensures.steps in
    let arc_is = turn.2 no_arc in
    let x_is = turn.3 m.null in
    record { arc = suc n; low = omega arith; high = omega (arith, turn.0, turn.1); lags = sym (c.eq.ensures ∙ told_by is_lt _ Less refl refl refl _ ∙ ap (told is_lt) (c.over.ensures ∙ over_read m net.nodes net.arcs.now net.lengths.now n _ _ arc_is x_is rows.k rows.values.now rows.counts.now)) ∙ c.if-eq.true }

pub loop-arc-preserved : goal.loop-arc-preserved
loop-arc-preserved g c = λ a low high.
    let m = g.M.Measure.algebra in
    let rows = c.args.self.now in
    let net = rows.net.now in
    let n = length c.loop-arc.yielded in
    let turn = sides_turn c.into_iter-arc-iterator.ensures.into_iter_gives c.zip-arc-items.ensures.first c.iter.ensures.rest c.zip-arc-items.ensures.second.0 c.loop-arc.yielded c.loop-arc.arc-iterator c.next.new.self c.loop-arc.yielded_by (c.in-Some.arc, c.in-Some.x) c.in-Some.is c.next.ensures.steps in
    let arc_is = turn.2 no_arc in
    let x_is = turn.3 m.null in
    elim (cases_eq a (suc n)) [
      | inl e ↦ subst (λ z. told is_lt (over_at m (net_of m net) rows.k rows.values.now rows.counts.now z) ≡ false) (sym e)
          (sym (c.eq.ensures ∙ told_by is_lt _ Less refl refl refl _ ∙ ap (told is_lt) (c.over.ensures ∙ over_read m net.nodes net.arcs.now net.lengths.now n _ _ arc_is x_is rows.k rows.values.now rows.counts.now)) ∙ c.if-eq.false)
      | inr ne ↦ c.loop-arc.invariant a low (omega (arith, length_push c.loop-arc.yielded (c.in-Some.arc, c.in-Some.x)))
    ]
