use Rattle.std.proofs.Common.{Equal, suc, ◌+◌, ◌-◌, ◌≤◌, length, get_or, refl, sym, ap, ◌∙◌, subst, inl, inr, arith}
use Rattle.std.proofs.lemmas.Bool.{both_ways, cases_eq}
use Rattle.std.proofs.lemmas.List.{length_push}
use Rattle.std.specs.Ordering.{is_eq}
use Rattle.sweeps.specs.Tables.{arc_at}
use Rattle.sweeps.specs.Inwards.{net_of}
use Rattle.sweeps.specs.Firsts.{told}
use Rattle.sweeps.specs.Ranks.{tight_at, rank_of}
use Rattle.sweeps.proofs.Sides.{sides_turn, sides_end}
use Rattle.sweeps.proofs.Checking.{proper_fits, over_read, told_by}
use Rattle.sweeps.proofs.Noding.{block_item, block_size, in_block}
use Rattle.sweeps.proofs.firsts.Rows.free.Goals as goal
use Rattle.sweeps.proofs.firsts.Rows.free.Goals.{else-ranks-arc-eq0-via-then-ranks-arc-eq0+else-eq, else-ranks-arc-eq0-via-else-ranks-arc-eq0}

pub overflow_sub-arc : goal.overflow_sub-arc
overflow_sub-arc g c =
    let rows = c.args.self.now in
    let net = rows.net.now in
    let b = block_item net.known c.requires.node c.into_node.ensures.arcs c.into_node.ensures.lengths
    (sides_turn c.into_iter-arc-iterator.ensures.into_iter_gives c.zip-arc-items.ensures.first c.iter.ensures.rest c.zip-arc-items.ensures.second.0 c.loop-arc.yielded c.loop-arc.arc-iterator c.next.new.self c.loop-arc.yielded_by (c.in-Some.arc, c.in-Some.x) c.in-Some.is c.next.ensures.steps) in
    omega (arith, b.block.low, ap (λ z. z.start) b.arc_is)

pub bounds-ranks-arc : goal.bounds-ranks-arc
bounds-ranks-arc g c =
    let rows = c.args.self.now in
    let net = rows.net.now in
    let b = block_item net.known c.requires.node c.into_node.ensures.arcs c.into_node.ensures.lengths
    (sides_turn c.into_iter-arc-iterator.ensures.into_iter_gives c.zip-arc-items.ensures.first c.iter.ensures.rest c.zip-arc-items.ensures.second.0 c.loop-arc.yielded c.loop-arc.arc-iterator c.next.new.self c.loop-arc.yielded_by (c.in-Some.arc, c.in-Some.x) c.in-Some.is c.next.ensures.steps) in
    omega (arith, b.block.low, b.block.high, ap (λ z. z.start) b.arc_is, c.requires.room)

pub over-requires : goal.over-requires
over-requires g c =
    let m = g.M.Measure.algebra in
    let rows = c.args.self.now in
    let net = rows.net.now in
    let n = length c.loop-arc.yielded in
    let b = block_item net.known c.requires.node c.into_node.ensures.arcs c.into_node.ensures.lengths
    (sides_turn c.into_iter-arc-iterator.ensures.into_iter_gives c.zip-arc-items.ensures.first c.iter.ensures.rest c.zip-arc-items.ensures.second.0 c.loop-arc.yielded c.loop-arc.arc-iterator c.next.new.self c.loop-arc.yielded_by (c.in-Some.arc, c.in-Some.x) c.in-Some.is c.next.ensures.steps) in
    let a = get_or net.first.now (c.args.j - 1) 0 + n in
    proper_fits m net.nodes net.arcs.now net.lengths.now a _ _ b.arc_is b.x_is (net.known.ordered.proper (suc a) (omega arith) (omega (arith, b.block.inside)))

pub returns-then-eq : goal.returns-then-eq
returns-then-eq g c =
    let m = g.M.Measure.algebra in
    let rows = c.args.self.now in
    let net = rows.net.now in
    let n = length c.loop-arc.yielded in
    let b = block_item net.known c.requires.node c.into_node.ensures.arcs c.into_node.ensures.lengths
    (sides_turn c.into_iter-arc-iterator.ensures.into_iter_gives c.zip-arc-items.ensures.first c.iter.ensures.rest c.zip-arc-items.ensures.second.0 c.loop-arc.yielded c.loop-arc.arc-iterator c.next.new.self c.loop-arc.yielded_by (c.in-Some.arc, c.in-Some.x) c.in-Some.is c.next.ensures.steps) in
    let a = get_or net.first.now (c.args.j - 1) 0 + n in
    record {
      arc = suc a;
      low = omega arith;
      high = omega (arith, b.block.inside);
      tight = sym (c.eq.ensures ∙ told_by is_eq _ Equal refl refl refl _ ∙ ap (told is_eq) (c.over.ensures ∙ over_read m net.nodes net.arcs.now net.lengths.now a _ _ b.arc_is b.x_is rows.k rows.values.now rows.counts.now)) ∙ c.if-eq.true;
      into = b.block.into;
      from = ap (λ z. rank_of c.args.ranks.now z.start) (sym b.arc_is) ∙ c.if-ranks-arc-eq0.true;
    }

pub loop-arc-preserved : goal.loop-arc-preserved
loop-arc-preserved g c = λ i low high t.
    let m = g.M.Measure.algebra in
    let rows = c.args.self.now in
    let net = rows.net.now in
    let n = length c.loop-arc.yielded in
    let b = block_item net.known c.requires.node c.into_node.ensures.arcs c.into_node.ensures.lengths
    (sides_turn c.into_iter-arc-iterator.ensures.into_iter_gives c.zip-arc-items.ensures.first c.iter.ensures.rest c.zip-arc-items.ensures.second.0 c.loop-arc.yielded c.loop-arc.arc-iterator c.next.new.self c.loop-arc.yielded_by (c.in-Some.arc, c.in-Some.x) c.in-Some.is c.next.ensures.steps) in
    let a = get_or net.first.now (c.args.j - 1) 0 + n in
    elim (cases_eq i (suc a)) [
      | inl e ↦ subst (λ z. 1 ≤ rank_of c.args.ranks.now (arc_at net.arcs.now z).start) (sym e) (elim c.else-ranks-arc-eq0.branch [
        | else-ranks-arc-eq0-via-then-ranks-arc-eq0+else-eq w ↦
            absurd (both_ways w.eq.result w.if-eq.false
            (w.eq.ensures ∙ told_by is_eq _ Equal refl refl refl _ ∙ ap (told is_eq) (w.over.ensures ∙ over_read m net.nodes net.arcs.now net.lengths.now a _ _ b.arc_is b.x_is rows.k rows.values.now rows.counts.now)
            ∙ ap (tight_at m (net_of m net) rows.k rows.values.now rows.counts.now) (sym e) ∙ t))
        | else-ranks-arc-eq0-via-else-ranks-arc-eq0 w ↦ subst (λ z. 1 ≤ rank_of c.args.ranks.now z.start) b.arc_is (omega (arith, w.if-ranks-arc-eq0.false))
      ])
      | inr ne ↦ c.loop-arc.invariant i low (omega (arith, length_push c.loop-arc.yielded (c.in-Some.arc, c.in-Some.x))) t
    ]

pub returns : goal.returns
returns g c = λ a low high t e.
    let net = c.args.self.now.net.now in
    let size = block_size net.known c.requires.node c.into_node.ensures.arcs c.into_node.ensures.lengths
    (sides_end c.into_iter-arc-iterator.ensures.into_iter_gives c.zip-arc-items.ensures.first c.iter.ensures.rest c.zip-arc-items.ensures.second.0 c.loop-arc.yielded c.loop-arc.arc-iterator c.next.new.self c.loop-arc.yielded_by c.in-None.is c.next.ensures.steps) in
    let b = in_block (net_of g.M.Measure.algebra net) net.first.now net.known.indexed c.args.j a c.requires.node.low c.requires.node.high low high e in
    c.loop-arc.invariant a b.0 (omega (arith, b.1)) t
