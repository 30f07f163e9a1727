use Rattle.std.proofs.Common.{◌≡◌, take, string_bytes}
use Rattle.columns.specs.Text.{row_text}
use Rattle.columns.proofs.text.column_text.Given as goal

abbrev pub invariant-loop-i : goal.invariant-loop-i
invariant-loop-i g l = string_bytes l.text ≡ row_text (take l.i (g.M.Columns.columnar.tell l.value))
