use Rattle.journal.proofs.Ends.{ends_as_put}
use Rattle.journal.proofs.histories.arcs_lead_as_put.Goals as goal

pub returns : goal.returns
returns g c = ends_as_put g.M.Measure.algebra
