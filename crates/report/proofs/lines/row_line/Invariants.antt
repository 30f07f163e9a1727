use Rattle.std.proofs.Common.{◌≡◌, ◌^◌, ◌<◌, ◌++◌, take, string_bytes}
use Rattle.report.specs.Lists.{lengths_listed}
use Rattle.report.proofs.lines.row_line.Given as goal

abbrev pub invariant-loop-value : goal.invariant-loop-value
invariant-loop-value g l = g.M.Columns.columnar.width < 2 ^ 64 → string_bytes l.line ≡ string_bytes l.initial.line ++ lengths_listed g.M.Columns.columnar (take l.value-index l.row)
