use Rattle.std.proofs.Common.{◌<◌, length, sym, ◌∙◌, arith}
use Rattle.std.proofs.lemmas.List.{get_or_read}
use Rattle.tracing.proofs.Cells.{passed_all, passed_more, found}
use Rattle.tracing.proofs.lent.Lent.further.Goals as goal

pub returns-then-arc-label : goal.returns-then-arc-label
returns-then-arc-label g c = λ sorted.
    passed_all g.M.Measure.algebra _ _ _ _ c.in_ok-here.ensures.0 c.in_ok-here.ensures.1 c.loop-i.i (omega arith) c.before_node.result _ (omega arith) (c.before_node.ensures.meant sorted) sorted c.if-arc-label.true (c.loop-i.invariant sorted)

pub returns-in-Some : goal.returns-in-Some
returns-in-Some g c =
    let lengths = c.args.self.now.lengths.now in
    let lt : c.loop-i.i < length lengths = omega (arith, c.args.self.now.sizes.beside) in
    λ sorted. found g.M.Measure.algebra _ _ _ _ c.in_ok-here.ensures.0 c.in_ok-here.ensures.1 c.loop-i.i (omega arith) _ (sym c.index-self-i.is ∙ get_or_read lengths c.loop-i.i c.index-self-i.result lt c.index-self-i.is g.M.Measure.algebra.null) _ _ (omega arith) (c.loop-i.invariant sorted) c.in-Some.ensures

pub loop-i-preserved : goal.loop-i-preserved
loop-i-preserved g c =
    let lengths = c.args.self.now.lengths.now in
    let lt : c.loop-i.i < length lengths = omega (arith, c.args.self.now.sizes.beside) in
    λ sorted. passed_more g.M.Measure.algebra _ _ _ _ c.in_ok-here.ensures.0 c.in_ok-here.ensures.1 c.loop-i.i (omega arith) _ (sym c.index-self-i.is ∙ get_or_read lengths c.loop-i.i c.index-self-i.result lt c.index-self-i.is g.M.Measure.algebra.null) _ (c.loop-i.invariant sorted) c.in_default.ensures
