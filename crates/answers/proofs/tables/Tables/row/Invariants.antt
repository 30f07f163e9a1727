use Rattle.std.proofs.Common.{ℕ, ◌-◌, ◌≤◌, List, length, take, vec_items}
use Rattle.walks.specs.Rows.{Table}
use Rattle.sweeps.specs.declared.Arc.{Arc}
use Rattle.session.specs.Nets.{Net}
use Rattle.session.specs.Settled.{SettledHolds}
use Rattle.answers.proofs.Rowing.{Front}
use Rattle.answers.proofs.tables.Tables.row.Given as goal

abbrev pub invariant-loop-length : goal.invariant-loop-length
invariant-loop-length g l = (net : Net _) (k s : ℕ) (t : Table _) (arcs : List Arc) (lengths : List _) → SettledHolds g.M.Measure.algebra net k s t l.settled arcs lengths l.self.values.items l.self.counts.items → 1 ≤ l.node → l.node ≤ net.nodes → Front (take k (t l.node)) (vec_items l.row)

abbrev pub decreases-loop-length : goal.decreases-loop-length
decreases-loop-length g l = l.settled.order.k - length l.row.items
