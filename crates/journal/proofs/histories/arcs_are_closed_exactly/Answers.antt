use Rattle.journal.proofs.Marks.{closed_exactly}
use Rattle.journal.proofs.histories.arcs_are_closed_exactly.Goals as goal

pub returns : goal.returns
returns g c = closed_exactly g.M.Measure.algebra
