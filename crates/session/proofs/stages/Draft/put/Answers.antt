use Rattle.std.proofs.Common.{refl, arith}
use Rattle.session.proofs.Holding.{put_holds}
use Rattle.session.proofs.stages.Draft.put.Goals as goal

pub returns-clause-meant : goal.returns-clause-meant
returns-clause-meant g c = λ net h.
    put_holds g.M.Measure.algebra net c.args.self.now _ _ _ _ _ _ h (omega arith) (omega arith) (omega arith) (omega arith) c.if-start-end.false (omega arith) (omega arith) (omega arith) (omega arith) refl refl refl
