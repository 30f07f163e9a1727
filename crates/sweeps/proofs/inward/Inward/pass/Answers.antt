use Rattle.std.proofs.Common.{◌≡◌, ◌+◌, ◌-◌, cond, sym, ap, ◌∙◌, arith}
use Rattle.sweeps.specs.Inwards.{net_of}
use Rattle.sweeps.proofs.Noding.{formed_of}
use Rattle.sweeps.proofs.Looping.{turns_more, turns_all}
use Rattle.sweeps.proofs.inward.Inward.pass.Goals as goal
use Rattle.sweeps.proofs.inward.Inward.pass.Goals.{then-down, else-down}

pub loop-i-preserved : goal.loop-i-preserved
loop-i-preserved g c =
    let net = net_of g.M.Measure.algebra c.args.self.now in
    let turn = λ (e : c.if-down.j ≡ cond c.args.down (c.args.self.now.nodes - c.loop-i.i) (c.loop-i.i + 1)).
    turns_more g.M.Measure.algebra net c.args.k g.met.M.Measure.lawful (formed_of _ net c.args.self.now.known.ordered) c.args.values.now c.args.counts.now c.args.down _ _ _ _ _ _ _ _ e (omega arith) c.loop-i.invariant c.work_node-changed.ensures in
    turn (elim c.if-down.branch [
      | then-down w ↦ w.j-is ∙ ap (λ b. cond b (c.args.self.now.nodes - c.loop-i.i) (c.loop-i.i + 1)) (sym w.if-down.true)
      | else-down w ↦ w.j-is ∙ ap (λ b. cond b (c.args.self.now.nodes - c.loop-i.i) (c.loop-i.i + 1)) (sym w.if-down.false)
    ])

pub returns : goal.returns
returns g c = turns_all _ _ _ g.met.M.Measure.lawful (formed_of _ _ c.args.self.now.known.ordered) _ _ c.args.down _ _ _ _ (omega arith) c.loop-i.invariant
