use Rattle.netfile.proofs.Total.{one_reading, read_back}
use Rattle.netfile.proofs.checking.check.Goals as goal

pub returns : goal.returns
returns c = record { reading = c.walk.ensures; one = one_reading; back = read_back }
