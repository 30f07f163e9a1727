use Rattle.std.proofs.Common.{arith}
use Rattle.measure.specs.SumLaws.{join_in}
use Rattle.measure.proofs.sum_measure.SumMeasure.join.Goals as goal

pub returns : goal.returns
returns c =
    join_in c.args.self.now c.args.other.now c.added.result (omega (arith, c.magnitude.ensures, c.magnitude-2.ensures)) c.added.ensures
