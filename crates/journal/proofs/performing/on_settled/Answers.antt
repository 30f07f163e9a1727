use Rattle.std.proofs.Common.{rules}
use Rattle.journal.proofs.Entries.{taken_as}
use Rattle.journal.proofs.Rested.{length_taken, reopen_taken}
use Rattle.journal.proofs.Opened.{opened_taken, unopened_taken}
use Rattle.journal.proofs.performing.on_settled.Goals as goal

pub returns-in-Length : goal.returns-in-Length
returns-in-Length g c = λ arcs lengths.
    taken_as _ _ _ _ _ _ _ _ _ c.in-Length.is (search rules)
    (length_taken _ _ arcs lengths _ _ _ _ _ _ c.length.result c.length.ensures.meant)

pub returns-in-Ok : goal.returns-in-Ok
returns-in-Ok g c = λ arcs lengths.
    rw c.in-Trace.is
    (opened_taken _ _ arcs lengths _ _ _ _ _ _ _ _ _ c.min-most_work.ensures c.min-most_path.ensures c.in-Ok.trace c.in-Ok.ensures)

pub returns-in-Err : goal.returns-in-Err
returns-in-Err g c = λ arcs lengths.
    rw c.in-Trace.is
    (unopened_taken _ _ arcs lengths _ _ _ _ _ _ _ _ _ c.min-most_work.ensures c.min-most_path.ensures (c.in-Err.settled, c.in-Err.why) c.in-Err.ensures)

pub returns-in-Reopen : goal.returns-in-Reopen
returns-in-Reopen g c = λ arcs lengths.
    rw c.in-Reopen.is
    (reopen_taken _ _ arcs lengths _ _ _ _ c.reopen.result _ _ c.reopen.ensures.draft c.reopen.ensures.emptied)
