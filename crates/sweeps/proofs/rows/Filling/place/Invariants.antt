use Rattle.std.proofs.Common.{◌-◌, ◌≤◌, take, drop}
use Rattle.walks.specs.Rows.{Ascending}
use Rattle.sweeps.proofs.Placing.{Seeks, Lands, Shifts}
use Rattle.sweeps.proofs.rows.Filling.place.Given as goal

abbrev pub invariant-loop-at : goal.invariant-loop-at
invariant-loop-at g l = Seeks g.M.Measure.algebra l.row l.self.held l.x l.at

abbrev pub decreases-loop-at : goal.decreases-loop-at
decreases-loop-at g l = l.self.held - l.at

abbrev pub invariant-loop-cell : goal.invariant-loop-cell
invariant-loop-cell g l =
    (l.at ≤ l.self.held) × (Ascending g.M.Measure.algebra (take l.self.held l.fn.row) → Lands g.M.Measure.algebra l.fn.row l.self.held l.fn.x l.at)
    × Shifts l.fn.x (take (l.self.held - l.at) (drop l.at l.fn.row)) l.cell-index l.cell-items l.carry
