use Rattle.std.proofs.Common.{◌≡◌, take, replicate}
use Rattle.sweeps.proofs.tables.clear.Given as goal

abbrev pub invariant-loop-value : goal.invariant-loop-value
invariant-loop-value g l = take l.value-index l.value-items ≡ replicate l.value-index g.M.Measure.algebra.null
