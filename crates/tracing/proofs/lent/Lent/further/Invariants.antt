use Rattle.std.proofs.Common.{ℕ, ◌<◌, ◌≤◌}
use Rattle.tracing.specs.declared.labels.Label.{Label}
use Rattle.tracing.specs.Labels.{read, Sorted, Back}
use Rattle.tracing.proofs.lent.Lent.further.Given as goal

abbrev pub invariant-loop-i : goal.invariant-loop-i
invariant-loop-i g l = Sorted (read l.self) → (c : ℕ) (z : Label) → l.above < c → c ≤ l.i → ¬ Back g.M.Measure.algebra (read l.self) l.label c z
