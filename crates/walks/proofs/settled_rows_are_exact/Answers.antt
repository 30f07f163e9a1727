use Rattle.walks.proofs.settled_rows_are_exact.Goals as goal
use Rattle.walks.proofs.Solving.{exactness}

pub returns : goal.returns
returns g c = exactness g.met.M.Measure.lawful
