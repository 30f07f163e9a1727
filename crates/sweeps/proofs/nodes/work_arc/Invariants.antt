use Rattle.sweeps.specs.Nodes.{ArcWorked}
use Rattle.sweeps.proofs.nodes.work_arc.Given as goal

abbrev pub invariant-loop-p : goal.invariant-loop-p
invariant-loop-p g l = ArcWorked g.M.Measure.algebra l.k l.from l.p l.to l.initial.row.held l.initial.row.changed l.x l.initial.values l.values l.row.held l.row.changed
