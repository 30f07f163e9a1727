use Rattle.std.proofs.Common.{◌≡◌, suc, ◌+◌, ◌-◌, ◌%◌, eqb, set, sym, ap, ◌∙◌, inl, inr, arith}
use Rattle.walks.specs.Method.{odd}
use Rattle.sweeps.specs.Inwards.{net_of}
use Rattle.sweeps.specs.Passes.{Bounds}
use Rattle.sweeps.proofs.Noding.{formed_of}
use Rattle.sweeps.proofs.Rings.{lagging_refused}
use Rattle.sweeps.proofs.Standing.{odd_is, cleared_as, stands_none, stands_more, stands_ends, stands_over}
use Rattle.sweeps.proofs.inward.Inward.settle.Goals as goal
use Rattle.sweeps.proofs.inward.Inward.settle.Goals.{else-loop-done-test, then-loop-done-test+else-done-ge-EARLIEST+then-done-self+then-lagging, then-loop-done-test+else-done-ge-EARLIEST+else-done-most}

pub loop-done-init : goal.loop-done-init
loop-done-init g c = λ b.
    let m = g.M.Measure.algebra in
    let laws = g.met.M.Measure.lawful in
    let net = net_of m c.args.self.now in
    let k = c.args.order.k in
    let s = c.args.order.source in
    let formed = formed_of m net c.args.self.now.known.ordered in
    let clean = cleared_as _ _ _ _ _ _ _ c.requires.cells c.requires.held c.clear.ensures in
    stands_none m net k s b laws formed _ _ clean.null_values (ap (λ z. set z (s - 1) 1) clean.no_counts)

pub pass-changed-requires : goal.pass-changed-requires
pass-changed-requires g c =
    let m = g.M.Measure.algebra in
    let laws = g.met.M.Measure.lawful in
    let net = net_of m c.args.self.now in
    let k = c.args.order.k in
    let s = c.args.order.source in
    let formed = formed_of m net c.args.self.now.known.ordered in
    let ok = c.args.order.ok in
    let b : Bounds net.nodes k s = record { nodes_high = c.args.self.now.few; k_low = ok.0; k_high = ok.1; s_low = ok.2; s_high = c.requires.source } in
    (c.loop-done.invariant b).are.shape

pub returns-then-not-changed : goal.returns-then-not-changed
returns-then-not-changed g c =
    let m = g.M.Measure.algebra in
    let laws = g.met.M.Measure.lawful in
    let net = net_of m c.args.self.now in
    let k = c.args.order.k in
    let s = c.args.order.source in
    let formed = formed_of m net c.args.self.now.known.ordered in
    let ok = c.args.order.ok in
    let b : Bounds net.nodes k s = record { nodes_high = c.args.self.now.few; k_low = ok.0; k_high = ok.1; s_low = ok.2; s_high = c.requires.source } in
    let last : c.loop-done.done - 1 + 1 ≡ c.loop-done.done = omega arith in
    let turn : eqb (c.loop-done.done % 2) 1 ≡ odd (suc (c.loop-done.done - 1)) = odd_is c.loop-done.done ∙ ap odd (let e : c.loop-done.done ≡ suc (c.loop-done.done - 1) = omega arith in e) in
    stands_ends m net k s b laws formed c.loop-done.values _ c.loop-done.counts _ (c.loop-done.done - 1) _ _ (omega arith) turn (c.loop-done.invariant b) c.pass-changed.ensures _ (sym last) c.if-done-ge-EARLIEST.true c.if-not-changed.true

pub loop-done-preserved : goal.loop-done-preserved
loop-done-preserved g c = λ b.
    let m = g.M.Measure.algebra in
    let laws = g.met.M.Measure.lawful in
    let net = net_of m c.args.self.now in
    let k = c.args.order.k in
    let s = c.args.order.source in
    let formed = formed_of m net c.args.self.now.known.ordered in
    let last : c.loop-done.done - 1 + 1 ≡ c.loop-done.done = omega arith in
    let turn : eqb (c.loop-done.done % 2) 1 ≡ odd (suc (c.loop-done.done - 1)) = odd_is c.loop-done.done ∙ ap odd (let e : c.loop-done.done ≡ suc (c.loop-done.done - 1) = omega arith in e) in
    stands_more m net k s b laws formed c.loop-done.values _ c.loop-done.counts _ (c.loop-done.done - 1) _ _ (omega arith) turn (c.loop-done.invariant b) c.pass-changed.ensures _ (omega arith)
    (elim c.else-done-ge-EARLIEST.either [ inl p ↦ inr p.1 | inr l ↦ inl (omega arith) ])

pub returns : goal.returns
returns g c =
    let m = g.M.Measure.algebra in
    let laws = g.met.M.Measure.lawful in
    let net = net_of m c.args.self.now in
    let k = c.args.order.k in
    let s = c.args.order.source in
    let formed = formed_of m net c.args.self.now.known.ordered in
    let ok = c.args.order.ok in
    let b : Bounds net.nodes k s = record { nodes_high = c.args.self.now.few; k_low = ok.0; k_high = ok.1; s_low = ok.2; s_high = c.requires.source } in
    let last : c.loop-done.done - 1 + 1 ≡ c.loop-done.done = omega arith in
    let turn : eqb (c.loop-done.done % 2) 1 ≡ odd (suc (c.loop-done.done - 1)) = odd_is c.loop-done.done ∙ ap odd (let e : c.loop-done.done ≡ suc (c.loop-done.done - 1) = omega arith in e) in
    let shape = (c.loop-done.invariant b).are.shape in (
      elim c.loop-done-test.branch [
        | else-loop-done-test w ↦ absurd (omega (arith, w.loop-done-test.false))
        | then-loop-done-test+else-done-ge-EARLIEST+then-done-self+then-lagging w ↦
            let stand = stands_more m net k s b laws formed c.loop-done.values _ c.loop-done.counts _ (c.loop-done.done - 1) _ _ (omega (arith, w.loop-done-test.true)) turn (c.loop-done.invariant b) w.pass-changed.ensures
            c.loop-done.done (sym last) (elim w.else-done-ge-EARLIEST.either [ inl p ↦ inr p.1 | inr l ↦ inl (omega arith) ]) in
            lagging_refused laws net k s b c.args.self.now.known.ordered c.loop-done.done _ _ (omega (arith, w.loop-done-test.true)) stand.are (omega (arith, w.if-done-self.true)) (w.if-lagging.ensures {u = tt})
        | then-loop-done-test+else-done-ge-EARLIEST+else-done-most w ↦
            let stand = stands_more m net k s b laws formed c.loop-done.values _ c.loop-done.counts _ (c.loop-done.done - 1) _ _ (omega (arith, w.loop-done-test.true)) turn (c.loop-done.invariant b) w.pass-changed.ensures
            c.loop-done.done (sym last) (elim w.else-done-ge-EARLIEST.either [ inl p ↦ inr p.1 | inr l ↦ inl (omega arith) ]) in
            stands_over m net k s b laws formed _ _ c.loop-done.done (omega arith) stand
      ],
      cleared_as _ _ _ _ _ _ _ (c.loop-done-test.auto.values ∙ shape.rows) (c.loop-done-test.auto.counts ∙ shape.nodes) c.clear-2.ensures,
    )
