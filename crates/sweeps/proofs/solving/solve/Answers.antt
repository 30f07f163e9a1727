use Rattle.std.proofs.Common.{rules}
use Rattle.std.proofs.lemmas.Slice.{overwrites}
use Rattle.sweeps.proofs.Wholes.{solves}
use Rattle.sweeps.proofs.solving.solve.Goals as goal

pub returns : goal.returns
returns g c =
    simp c.ok_or.ensures.value
    (solves g.M.Measure.algebra c.args.nodes c.args.order.k c.args.order.source c.args.arcs.now c.args.lengths.now c.args.values.now c.args.counts.now (search rules)
    c.fill.new.values _ c.fill.new.counts _ (search rules) (search rules) (search (rules, overwrites)) (search (rules, overwrites)) (search (rules, overwrites)) (search (rules, overwrites)) c.fill.result c.fill.ensures)
