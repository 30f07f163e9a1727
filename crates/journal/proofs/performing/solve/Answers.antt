use Rattle.journal.proofs.Solved.{accepted_taken, refused_taken}
use Rattle.journal.proofs.performing.solve.Goals as goal

pub returns-in-Ok : goal.returns-in-Ok
returns-in-Ok g c = λ work path.
    accepted_taken _ _ _ _ _ _ _ _ _ work path _ _ c.min-most_values.ensures c.min-most_counts.ensures _ _ (c.in-Ok.settled, c.in-Ok.field-0-1) c.in-Ok.ensures.done c.in-Ok.ensures.meant

pub returns-in-Err : goal.returns-in-Err
returns-in-Err g c = λ work path.
    refused_taken _ _ _ _ _ _ _ _ _ work path _ _ c.min-most_values.ensures c.min-most_counts.ensures _ _ (c.in-Err.draft, c.in-Err.why) c.in-Err.ensures.done c.in-Err.ensures.meant
