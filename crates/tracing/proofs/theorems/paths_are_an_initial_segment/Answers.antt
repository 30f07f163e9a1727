use Rattle.tracing.proofs.Segments.{segments}
use Rattle.tracing.proofs.theorems.paths_are_an_initial_segment.Goals as goal

pub returns : goal.returns
returns g c = segments g.met.M.Measure.lawful
