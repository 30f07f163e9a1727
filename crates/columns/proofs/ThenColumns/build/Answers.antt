use Rattle.std.proofs.Common.{arith}
use Rattle.columns.specs.Inverses.{short_builds}
use Rattle.columns.proofs.ThenColumns.build.Goals as goal

pub returns-then-columns-front : goal.returns-then-columns-front
returns-then-columns-front g c = short_builds g.F.Columns.columnar g.met.F.Columns.inverse _ c.args.columns.now (omega arith)
