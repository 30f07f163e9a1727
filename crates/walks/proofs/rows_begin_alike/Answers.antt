use Rattle.walks.proofs.rows_begin_alike.Goals as goal
use Rattle.walks.proofs.Solving.{beginnings}

pub returns : goal.returns
returns g c = beginnings g.met.M.Measure.lawful
