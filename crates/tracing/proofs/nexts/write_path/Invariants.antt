use Rattle.std.proofs.Common.{◌≡◌, length, take, drop, reverse}
use Rattle.tracing.specs.Steps.{arcs_of}
use Rattle.tracing.proofs.nexts.write_path.Given as goal

abbrev pub invariant-loop-i : goal.invariant-loop-i
invariant-loop-i l = (take (length l.yielded) l.path ≡ take (length l.yielded) (reverse (arcs_of l.steps))) × (drop (length l.steps) l.path ≡ drop (length l.steps) l.initial.path)
