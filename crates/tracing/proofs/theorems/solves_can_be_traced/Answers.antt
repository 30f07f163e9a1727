use Rattle.tracing.proofs.Starting.{solves_traced}
use Rattle.tracing.proofs.theorems.solves_can_be_traced.Goals as goal

pub returns : goal.returns
returns g c = solves_traced g.met.M.Measure.lawful
