use Rattle.std.proofs.Common.{length, drop, refl, ap, ◌∙◌, arith, drop-set-lt, rules}
use Rattle.journal.proofs.Answering.{begun, answered, one_answered, all_answered}
use Rattle.journal.proofs.running.run.Goals as goal

pub loop-i-init : goal.loop-i-init
loop-i-init g c = (begun _ _ _ c.in_ok-draft.draft _ refl c.in_ok-draft.ensures.1 c.in_ok-draft.ensures.2 c.in_ok-draft.ensures.3, refl)

pub loop-i-preserved : goal.loop-i-preserved
loop-i-preserved g c = (
  simp c.store.ensures
      (one_answered _ _ _ c.args.calls.now c.loop-i.answers c.loop-i.i c.index-calls-i.result _ _ _ (omega arith) (omega arith) c.index-calls-i.is
      (answered _ _ _ _ _ _ _ _ _ _ c.perform-next.result.1 c.perform-next.ensures
      (search rules) c.loop-i.invariant.0)),
  ap (drop (length c.args.calls.now)) c.store.ensures ∙ drop-set-lt (length c.args.calls.now) c.loop-i.answers c.loop-i.i _ (omega arith) ∙ c.loop-i.invariant.1,
)

pub returns : goal.returns
returns g c = record { ends = (c.in_ok-draft.ensures.0, omega arith, all_answered _ _ _ _ _ c.loop-i.i _ _ (omega arith) c.loop-i.invariant.0); frame = c.loop-i.invariant.1 }
