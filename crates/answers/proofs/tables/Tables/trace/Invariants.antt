use Rattle.std.proofs.Common.{◌-◌}
use Rattle.answers.proofs.tables.Tables.trace.Given as goal

abbrev pub decreases-loop-self : goal.decreases-loop-self
decreases-loop-self g l = l.most - l.count
