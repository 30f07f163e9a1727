use Rattle.walks.proofs.null_circuits_are_told.Goals as goal
use Rattle.walks.proofs.Marking.{nulls_told}

pub returns : goal.returns
returns g c = nulls_told g.met.M.Measure.lawful
