use Rattle.std.proofs.Common.{◌≡◌, ◌^◌, ◌<◌, ◌++◌, codes, take, string_bytes}
use Rattle.report.specs.Lists.{length_text, nodes_listed}
use Rattle.report.proofs.lines.path_line.Given as goal

abbrev pub invariant-loop-node : goal.invariant-loop-node
invariant-loop-node g l = g.M.Columns.columnar.width < 2 ^ 64 → string_bytes l.line ≡ length_text g.M.Columns.columnar l.length ++ (codes " :" ++ nodes_listed (take l.node-index l.nodes))
