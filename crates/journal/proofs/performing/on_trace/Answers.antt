use Rattle.std.proofs.Common.{rules}
use Rattle.journal.proofs.Entries.{taken_as}
use Rattle.journal.proofs.Traced.{path_taken, none_taken}
use Rattle.journal.proofs.performing.on_trace.Goals as goal

pub returns-in-Some : goal.returns-in-Some
returns-in-Some g c =
    taken_as _ _ _ _ _ _ _ _ _ c.in-Next.is (search rules)
    (path_taken _ g.met.M.Measure.lawful _ _ _ _ _ _ _ _ _ _ (c.in-Some.count, c.in-Some.length) c.in-Some.ensures.meant)

pub returns-in-None : goal.returns-in-None
returns-in-None g c =
    rw c.in-Next.is
    (none_taken _ g.met.M.Measure.lawful _ _ _ _ _ _ _ _ _ _ c.in-None.ensures.meant)
