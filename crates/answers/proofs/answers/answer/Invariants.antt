use Rattle.std.proofs.Common.{◌-◌, length}
use Rattle.answers.proofs.answers.answer.Given as goal

abbrev pub decreases-loop-item : goal.decreases-loop-item
decreases-loop-item g l = length l.reader.file.now - l.reader.at
