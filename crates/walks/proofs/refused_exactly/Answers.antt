use Rattle.walks.proofs.refused_exactly.Goals as goal
use Rattle.walks.proofs.Solving.{refusals}

pub returns : goal.returns
returns g c = refusals g.met.M.Measure.lawful
