use Rattle.std.proofs.Common.{rules, tests}
use Rattle.std.proofs.lemmas.Iterator.{IsFirst-from_position, YieldsList-from_slice}
use Rattle.tracing.specs.Labels.{read, Comes}
use Rattle.tracing.proofs.Cells.{first_link}
use Rattle.tracing.proofs.lent.Lent.link.Goals as goal

pub returns : goal.returns
returns g c =
    let m = g.M.Measure.algebra in
    first_link m (read c.args.self.now) c.args.arc c.args.x c.args.node c.args.here c.row.result.now c.row.ensures _ (search (rules, tests)) c.if-arc-node.false
    (IsFirst-from_position _ _ c.position.result (λ y. Comes m y c.args.x c.args.here) (λ y. ¬ Comes m y c.args.x c.args.here) c.position.ensures.ran (YieldsList-from_slice c.row.result.now (cc)) (λ y q k. search rules) (λ y q k. search rules))
