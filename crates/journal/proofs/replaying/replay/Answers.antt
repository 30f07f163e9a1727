use Rattle.std.proofs.Common.{◌≡◌, [], ◌∷◌, ◌++◌, vec_items, refl, ap, ◌∙◌, arith, rules}
use Rattle.journal.proofs.Noting.{begun, went_on, passed_by, one_more, all_made}
use Rattle.journal.proofs.replaying.replay.Goals as goal
use Rattle.journal.proofs.replaying.replay.Goals.{in_default, in-Some+in_ok-note+in_ok-push}

pub loop-call-init : goal.loop-call-init
loop-call-init g c = begun _ _ _ _ (search rules) c.in_ok-new.field-0 _ refl c.in_ok-new.ensures.1 c.in_ok-new.ensures.2 c.in_ok-new.ensures.3

pub loop-call-preserved : goal.loop-call-preserved
loop-call-preserved g c =
    one_more _ _ _ c.args.calls.now c.loop-call.call-index c.call-item.result _ _ _ (omega arith) c.call-item.is
    (elim c.match-answer.branch [
      | in-Some+in_ok-note+in_ok-push w ↦
          let e : vec_items c.match-answer.entries ≡ vec_items c.loop-call.entries ++ w.in_ok-note.field-0 ∷ [] = ap vec_items w.entries-is ∙ w.in_ok-push.ensures.items in
          simp e
          (went_on _ _ _ _ _ _ _ _ _ _ w.in-Some.answer w.in_ok-note.field-0
          (rw w.in-Some.is at c.perform-next.ensures)
          (λ y. w.in_ok-note.ensures y c.perform-next.new.arcs c.perform-next.new.lengths c.perform-next.new.work)
          (search rules)
          c.loop-call.invariant)
      | in_default w ↦
          let e : vec_items c.match-answer.entries ≡ vec_items c.loop-call.entries = ap vec_items w.entries-is in
          simp e (passed_by _ _ _ _ _ _ _ _ _ _ (rw w.in_default.is at c.perform-next.ensures) c.loop-call.invariant)
    ])

pub returns : goal.returns
returns g c = (c.in_ok-new.ensures.0, all_made _ _ _ _ c.loop-call.call-index _ _ _ (omega arith) c.loop-call.invariant)
