use Rattle.std.proofs.Common.{rules}
use Rattle.journal.proofs.Entries.{taken_as}
use Rattle.journal.proofs.Drafted.{put_taken, relength_taken, close_taken, open_taken}
use Rattle.journal.proofs.performing.on_draft.Goals as goal
use Rattle.journal.proofs.performing.on_draft.Goals.{in-Put, in-Relength, in-Close, in-Open}

pub returns : goal.returns
returns g c = λ work path.
    elim c.match-call.branch [
      | in-Put w ↦ simp (w.arcs-is, w.lengths-is, w.draft-is, w.answer-is)
          (taken_as _ _ _ _ _ _ _ _ _ w.in-Put.is (search rules) (put_taken _ _ _ _ _ _ work path _ _ _ w.put.result _ _ _ w.put.ensures.done w.put.ensures.meant))
      | in-Relength w ↦ simp (w.arcs-is, w.lengths-is, w.draft-is, w.answer-is)
          (taken_as _ _ _ _ _ _ _ _ _ w.in-Relength.is (search rules) (relength_taken _ _ _ _ _ _ work path _ _ w.relength.result _ w.relength.ensures.done w.relength.ensures.meant))
      | in-Close w ↦ simp (w.arcs-is, w.lengths-is, w.draft-is, w.answer-is)
          (taken_as _ _ _ _ _ _ _ _ _ w.in-Close.is (search rules) (close_taken _ _ _ _ _ _ work path _ w.close.result _ w.close.ensures))
      | in-Open w ↦ simp (w.arcs-is, w.lengths-is, w.draft-is, w.answer-is)
          (taken_as _ _ _ _ _ _ _ _ _ w.in-Open.is (search rules) (open_taken _ _ _ _ _ _ work path _ w.open.result _ w.open.ensures))
    ]
