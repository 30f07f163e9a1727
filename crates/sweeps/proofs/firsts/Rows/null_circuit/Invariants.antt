use Rattle.std.proofs.Common.{◌-◌}
use Rattle.sweeps.specs.Inwards.{net_of}
use Rattle.sweeps.specs.Ranks.{Climbs}
use Rattle.sweeps.proofs.firsts.Rows.null_circuit.Given as goal

abbrev pub invariant-loop-ranked : goal.invariant-loop-ranked
invariant-loop-ranked g l = Climbs g.M.Measure.algebra (net_of g.M.Measure.algebra l.self.net.now) l.self.k l.self.values.now l.self.counts.now l.ranks l.ranked

abbrev pub decreases-loop-ranked : goal.decreases-loop-ranked
decreases-loop-ranked g l = 1000 - l.ranked
