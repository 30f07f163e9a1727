use Rattle.walks.proofs.paths_are_traced_in_order.Goals as goal
use Rattle.walks.proofs.Tracing.{traced_in_order}

pub returns : goal.returns
returns g c = traced_in_order g.met.M.Measure.lawful
