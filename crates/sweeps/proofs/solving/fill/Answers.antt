use Rattle.std.proofs.Common.{sym, subst}
use Rattle.walks.proofs.Solving.{exactness, refusals, passes}
use Rattle.sweeps.specs.Tables.{network}
use Rattle.sweeps.specs.Passes.{Filled}
use Rattle.sweeps.proofs.Rings.{within_of, null_told}
use Rattle.sweeps.proofs.Wholes.{held_of}
use Rattle.sweeps.proofs.solving.fill.Goals as goal

pub returns-in_err-passes : goal.returns-in_err-passes
returns-in_err-passes g c =
    let m = g.M.Measure.algebra in
    let k = c.args.order.k in
    let s = c.args.order.source in
    let net = network m c.args.nodes c.args.arcs.now c.args.lengths.now in
    let h = c.in_err-passes.ensures {u = tt} in
    subst (λ r. Filled m net k s r c.settle.new.values c.settle.new.counts) (sym c.from_residual.ensures)
    (h.1, λ order. record { ended = h.0; circuit = (refusals g.met.M.Measure.lawful net k s (within_of m net k s c.requires.bounds order)).0 h.0 })

pub returns : goal.returns
returns g c =
    let m = g.M.Measure.algebra in
    let laws = g.met.M.Measure.lawful in
    let k = c.args.order.k in
    let s = c.args.order.source in
    let net = network m c.args.nodes c.args.arcs.now c.args.lengths.now in
    let order = c.if-not-in_order.ensures {u = tt} in
    let within = within_of m net k s c.requires.bounds order in
    let h = c.in_ok-passes.ensures {u = tt} in
    record {
      ended = h.ended;
      few = (passes laws net k s within c.in_ok-passes.passes h.ended).2;
      held = held_of m c.args.nodes k _ _ _ h.are;
      exact = exactness laws net k s within c.in_ok-passes.passes h.ended;
      null_told = null_told laws net k s c.requires.bounds order c.in_ok-passes.passes _ _ h _ c.null_circuit-null.ensures;
    }
