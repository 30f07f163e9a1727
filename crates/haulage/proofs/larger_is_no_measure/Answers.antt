use Rattle.haulage.specs.HaulLaws.{larger_fails}
use Rattle.haulage.proofs.larger_is_no_measure.Goals as goal

pub returns : goal.returns
returns c = larger_fails
