use Rattle.journal.proofs.Lengths.{last_lengths}
use Rattle.journal.proofs.histories.arcs_have_their_last_lengths.Goals as goal

pub returns : goal.returns
returns g c = last_lengths g.M.Measure.algebra
