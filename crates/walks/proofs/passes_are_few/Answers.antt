use Rattle.walks.proofs.passes_are_few.Goals as goal
use Rattle.walks.proofs.Solving.{passes}

pub returns : goal.returns
returns g c = passes g.met.M.Measure.lawful
