use Rattle.std.proofs.Common.{◌≡◌, ℕ, ◌+◌, ◌-◌, ◌<◌, ◌≤◌, true, length, get_or}
use Rattle.sweeps.specs.Tables.{arc_at}
use Rattle.sweeps.specs.Inwards.{net_of}
use Rattle.sweeps.specs.Ranks.{tight_at, rank_of}
use Rattle.sweeps.proofs.firsts.Rows.free.Given as goal

abbrev pub invariant-loop-arc : goal.invariant-loop-arc
invariant-loop-arc g l =
    (a : ℕ) → get_or l.self.net.now.first.now (l.j - 1) 0 < a → a ≤ get_or l.self.net.now.first.now (l.j - 1) 0 + length l.yielded
    → tight_at g.M.Measure.algebra (net_of g.M.Measure.algebra l.self.net.now) l.self.k l.self.values.now l.self.counts.now a ≡ true → 1 ≤ rank_of l.ranks (arc_at l.self.net.now.arcs.now a).start
