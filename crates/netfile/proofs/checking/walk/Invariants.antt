use Rattle.std.proofs.Common.{◌≡◌, ◌-◌, length}
use Rattle.netfile.proofs.Runs.{Reached}
use Rattle.netfile.proofs.checking.walk.Given as goal

abbrev pub invariant-loop : goal.invariant-loop
invariant-loop l = record { file : l.reader.file.now ≡ l.fn.file; limits : l.reader.limits ≡ l.fn.limits; reached : Reached l.reader }

abbrev pub decreases-loop : goal.decreases-loop
decreases-loop l = length l.reader.file.now - l.reader.at
