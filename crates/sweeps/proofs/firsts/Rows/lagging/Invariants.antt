use Rattle.std.proofs.Common.{◌≡◌, ℕ, ◌≤◌, false, length}
use Rattle.std.specs.Ordering.{is_lt}
use Rattle.sweeps.specs.Inwards.{net_of}
use Rattle.sweeps.specs.Firsts.{told, over_at}
use Rattle.sweeps.proofs.firsts.Rows.lagging.Given as goal

abbrev pub invariant-loop-arc : goal.invariant-loop-arc
invariant-loop-arc g l = (a : ℕ) → 1 ≤ a → a ≤ length l.yielded → told is_lt (over_at g.M.Measure.algebra (net_of g.M.Measure.algebra l.self.net.now) l.self.k l.self.values.now l.self.counts.now a) ≡ false
