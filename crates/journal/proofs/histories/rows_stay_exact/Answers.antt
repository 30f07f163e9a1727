use Rattle.journal.proofs.Staying.{stay_exact}
use Rattle.journal.proofs.histories.rows_stay_exact.Goals as goal

pub returns : goal.returns
returns g c = stay_exact g.M.Measure.algebra
