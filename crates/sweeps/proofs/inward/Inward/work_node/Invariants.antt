use Rattle.std.proofs.Common.{◌+◌, ◌-◌, length, get_or}
use Rattle.sweeps.specs.Tables.{count_of}
use Rattle.sweeps.specs.Inwards.{net_of}
use Rattle.sweeps.specs.Nodes.{RowIs, node_row}
use Rattle.sweeps.proofs.inward.Inward.work_node.Given as goal

abbrev pub invariant-loop-arc : goal.invariant-loop-arc
invariant-loop-arc g l = RowIs g.M.Measure.algebra l.k l.j l.initial.values (count_of l.counts l.j) (node_row g.M.Measure.algebra (net_of g.M.Measure.algebra l.self) l.k l.down l.j l.initial.values l.counts (get_or l.self.first.now (l.j - 1) 0 + length l.yielded)) l.values l.row.held l.row.changed
