use Rattle.walks.proofs.paths_are_ordered.Goals as goal
use Rattle.walks.proofs.Paths.{paths_ordered}

pub returns : goal.returns
returns g c = paths_ordered g.met.M.Measure.lawful
