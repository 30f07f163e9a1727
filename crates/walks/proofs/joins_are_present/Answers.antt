use Rattle.walks.proofs.joins_are_present.Goals as goal
use Rattle.walks.proofs.Solving.{joins}

pub returns : goal.returns
returns g c = joins g.met.M.Measure.lawful
