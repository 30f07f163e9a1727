use Rattle.std.proofs.Common.{◌+◌, ◌<◌, length, arith, rules}
use Rattle.sweeps.specs.Tables.{start_of}
use Rattle.tracing.proofs.Cells.{cell_in}
use Rattle.tracing.proofs.lent.Lent.value.Goals as goal

pub offset_bounds-self-node-2 : goal.offset_bounds-self-node-2
offset_bounds-self-node-2 g c =
    let s = c.args.self.now in
    let x = c.args.label in
    let l : start_of s.order.k x.node + x.place < length s.values.now = cell_in s.nodes s.order.k x.node x.place (length s.values.now) s.sizes.rows (omega arith) (omega arith) (omega arith) in
    search rules
