use Rattle.std.proofs.Common.{◌≡◌, length, take, drop}
use Rattle.journal.specs.Performs.{tables, sizes_of}
use Rattle.journal.proofs.Answering.{Answering}
use Rattle.journal.proofs.running.run.Given as goal

abbrev pub invariant-loop-i : goal.invariant-loop-i
invariant-loop-i g l =
    Answering g.M.Measure.algebra l.nodes (sizes_of (tables l.initial.arcs l.initial.lengths l.initial.values l.initial.counts l.initial.work l.initial.path))
    (take l.i l.calls) (take l.i l.answers) l.stage (tables l.arcs l.lengths l.values l.counts l.work l.path)
    × (drop (length l.calls) l.answers ≡ drop (length l.calls) l.initial.answers)
