use Rattle.sweeps.specs.Inwards.{net_of}
use Rattle.sweeps.proofs.Looping.{Turns}
use Rattle.sweeps.proofs.inward.Inward.pass.Given as goal

abbrev pub invariant-loop-i : goal.invariant-loop-i
invariant-loop-i g l = Turns g.M.Measure.algebra (net_of g.M.Measure.algebra l.self) l.k l.down l.initial.values l.initial.counts l.values l.counts l.changed l.i
