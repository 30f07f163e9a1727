use Rattle.walks.proofs.first_lengths_rest.Goals as goal
use Rattle.walks.proofs.Solving.{firsts}

pub returns : goal.returns
returns g c = firsts g.met.M.Measure.lawful
