use Rattle.std.proofs.Common.{take, vec_items}
use Rattle.journal.specs.Performs.{tables, sizes_of}
use Rattle.journal.proofs.Noting.{Noting}
use Rattle.journal.proofs.replaying.replay.Given as goal

abbrev pub invariant-loop-call : goal.invariant-loop-call
invariant-loop-call g l =
    Noting g.M.Measure.algebra l.nodes (sizes_of (tables l.initial.arcs l.initial.lengths l.initial.values l.initial.counts l.initial.work l.initial.path))
    (take l.call-index l.calls) (vec_items l.entries) l.stage (tables l.arcs l.lengths l.values l.counts l.work l.path)
