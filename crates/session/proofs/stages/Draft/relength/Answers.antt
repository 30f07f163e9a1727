use Rattle.std.proofs.Common.{arith}
use Rattle.session.proofs.Holding.{relength_holds}
use Rattle.session.proofs.stages.Draft.relength.Goals as goal

pub returns-clause-meant : goal.returns-clause-meant
returns-clause-meant g c = λ net arcs h. relength_holds g.M.Measure.algebra net _ arcs _ _ _ (omega arith) (omega arith) (omega arith) h
