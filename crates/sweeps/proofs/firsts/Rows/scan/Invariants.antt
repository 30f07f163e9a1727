use Rattle.sweeps.specs.Inwards.{net_of}
use Rattle.sweeps.proofs.Ranking.{Part}
use Rattle.sweeps.proofs.firsts.Rows.scan.Given as goal

abbrev pub invariant-loop-i : goal.invariant-loop-i
invariant-loop-i g l = Part g.M.Measure.algebra (net_of g.M.Measure.algebra l.self.net.now) l.self.k l.self.values.now l.self.counts.now l.ranked l.ranks l.total l.i
