use Rattle.walks.proofs.paths_run_through_rows.Goals as goal
use Rattle.walks.proofs.Paths.{paths_in_rows}

pub returns : goal.returns
returns g c = paths_in_rows g.met.M.Measure.lawful
