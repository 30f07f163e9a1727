use Rattle.std.proofs.Common.{suc, ◌+◌, ◌-◌, ◌&&◌, length, get_or, sym, refl, ap, ◌∙◌, arith}
use Rattle.std.proofs.lemmas.List.{length_push}
use Rattle.walks.specs.Method.{takes}
use Rattle.sweeps.specs.Inwards.{net_of}
use Rattle.sweeps.proofs.Sides.{sides_turn, sides_end}
use Rattle.sweeps.proofs.Noding.{two_rows, uses_taken, block_item, block_size, node_none, node_all, node_skip, node_more}
use Rattle.sweeps.proofs.inward.Inward.work_node.Goals as goal

pub loop-arc-init : goal.loop-arc-init
loop-arc-init g c =
    node_none g.M.Measure.algebra (net_of g.M.Measure.algebra c.args.self.now) c.args.k c.args.down c.args.j c.args.values.now c.args.counts.now c.args.self.now.first.now
    c.args.self.now.known.indexed c.requires.node.low c.requires.node.high _ _ (omega arith) refl (c.requires.shape.full (c.args.j - 1))

pub overflow_sub-from : goal.overflow_sub-from
overflow_sub-from g c =
    let p = c.args in
    let net = p.self.now in
    let b = block_item net.known c.requires.node c.into_node.ensures.arcs c.into_node.ensures.lengths
    (sides_turn c.into_iter-arc-iterator.ensures.into_iter_gives c.zip-arc-items.ensures.first c.iter.ensures.rest c.zip-arc-items.ensures.second.0 c.loop-arc.yielded c.loop-arc.arc-iterator c.next.new.self c.loop-arc.yielded_by (c.in-Some.arc, c.in-Some.x) c.in-Some.is c.next.ensures.steps) in
    omega (arith, b.block.low, ap (λ z. z.start) b.arc_is)

pub bounds-counts-from : goal.bounds-counts-from
bounds-counts-from g c =
    let p = c.args in
    let net = p.self.now in
    let b = block_item net.known c.requires.node c.into_node.ensures.arcs c.into_node.ensures.lengths
    (sides_turn c.into_iter-arc-iterator.ensures.into_iter_gives c.zip-arc-items.ensures.first c.iter.ensures.rest c.zip-arc-items.ensures.second.0 c.loop-arc.yielded c.loop-arc.arc-iterator c.next.new.self c.loop-arc.yielded_by (c.in-Some.arc, c.in-Some.x) c.in-Some.is c.next.ensures.steps) in
    omega (arith, b.block.low, b.block.high, ap (λ z. z.start) b.arc_is, c.requires.shape.nodes)

pub work_arc-requires : goal.work_arc-requires
work_arc-requires g c =
    let p = c.args in
    let net = p.self.now in
    let b = block_item net.known c.requires.node c.into_node.ensures.arcs c.into_node.ensures.lengths
    (sides_turn c.into_iter-arc-iterator.ensures.into_iter_gives c.zip-arc-items.ensures.first c.iter.ensures.rest c.zip-arc-items.ensures.second.0 c.loop-arc.yielded c.loop-arc.arc-iterator c.next.new.self c.loop-arc.yielded_by (c.in-Some.arc, c.in-Some.x) c.in-Some.is c.next.ensures.steps) in
    let e = ap (λ z. z.start) b.arc_is in
    two_rows net.nodes p.k (length p.values.now) _ c.in-Some.arc.now.start p.j _ p.counts.now c.requires.shape c.loop-arc.auto.values (omega (arith, e, b.block.low)) (omega (arith, e, b.block.high)) c.requires.node.low c.requires.node.high
    (λ z. b.block.apart (sym e ∙ z)) c.loop-arc.invariant.bound

pub loop-arc-preserved-then-taken : goal.loop-arc-preserved-then-taken
loop-arc-preserved-then-taken g c =
    let m = g.M.Measure.algebra in
    let p = c.args in
    let net = p.self.now in
    let n = length c.loop-arc.yielded in
    let b = block_item net.known c.requires.node c.into_node.ensures.arcs c.into_node.ensures.lengths
    (sides_turn c.into_iter-arc-iterator.ensures.into_iter_gives c.zip-arc-items.ensures.first c.iter.ensures.rest c.zip-arc-items.ensures.second.0 c.loop-arc.yielded c.loop-arc.arc-iterator c.next.new.self c.loop-arc.yielded_by (c.in-Some.arc, c.in-Some.x) c.in-Some.is c.next.ensures.steps) in
    let a = get_or net.first.now (p.j - 1) 0 + n in
    let way = uses_taken (net_of m net) p.down p.j (suc a) b.block.into ∙ ap (λ z. z.«open» && takes p.down z.start p.j) (sym b.arc_is) ∙ sym c.taken.ensures ∙ c.if-taken.true in
    node_more m (net_of m net) p.k p.down p.j p.values.now p.counts.now a _ c.in-Some.arc.now.start c.loop-arc.row.held c.work_arc.new.row.held c.loop-arc.row.changed c.work_arc.new.row.changed c.loop-arc.values c.work_arc.new.values c.in-Some.x.now
    g.met.M.Measure.lawful (omega (arith, length_push c.loop-arc.yielded (c.in-Some.arc, c.in-Some.x))) (ap (λ z. z.start) b.arc_is) c.loop-arc.invariant way b.x_is b.block.low c.requires.node.low b.block.apart c.work_arc.ensures

pub loop-arc-preserved : goal.loop-arc-preserved
loop-arc-preserved g c =
    let m = g.M.Measure.algebra in
    let p = c.args in
    let net = p.self.now in
    let n = length c.loop-arc.yielded in
    let b = block_item net.known c.requires.node c.into_node.ensures.arcs c.into_node.ensures.lengths
    (sides_turn c.into_iter-arc-iterator.ensures.into_iter_gives c.zip-arc-items.ensures.first c.iter.ensures.rest c.zip-arc-items.ensures.second.0 c.loop-arc.yielded c.loop-arc.arc-iterator c.next.new.self c.loop-arc.yielded_by (c.in-Some.arc, c.in-Some.x) c.in-Some.is c.next.ensures.steps) in
    let a = get_or net.first.now (p.j - 1) 0 + n in
    let way = uses_taken (net_of m net) p.down p.j (suc a) b.block.into ∙ ap (λ z. z.«open» && takes p.down z.start p.j) (sym b.arc_is) ∙ sym c.taken.ensures ∙ c.if-taken.false in
    node_skip m (net_of m net) p.k p.down p.j p.values.now p.counts.now a _ c.loop-arc.row.held c.loop-arc.row.changed c.loop-arc.values (omega (arith, length_push c.loop-arc.yielded (c.in-Some.arc, c.in-Some.x))) c.loop-arc.invariant way

pub returns : goal.returns
returns g c =
    let p = c.args in
    let net = p.self.now in
    let size = block_size net.known c.requires.node c.into_node.ensures.arcs c.into_node.ensures.lengths
    (sides_end c.into_iter-arc-iterator.ensures.into_iter_gives c.zip-arc-items.ensures.first c.iter.ensures.rest c.zip-arc-items.ensures.second.0 c.loop-arc.yielded c.loop-arc.arc-iterator c.next.new.self c.loop-arc.yielded_by c.in-None.is c.next.ensures.steps) in
    record {
      count = c.loop-arc.row.held;
      is = node_all g.M.Measure.algebra (net_of g.M.Measure.algebra net) p.k p.down p.j p.values.now p.counts.now net.first.now net.known.indexed c.requires.node.low c.requires.node.high
          _ c.loop-arc.row.held c.loop-arc.row.changed c.loop-arc.values size c.loop-arc.invariant;
      held = refl;
    }
