use Rattle.std.proofs.Common.{[], length, ap, ◌∙◌}
use Rattle.std.proofs.lemmas.List.{take_rest, length-drop}
use Rattle.tracing.proofs.Advancing.{fresh, passed, turned_some, turned_none}
use Rattle.tracing.proofs.lent.Lent.advance.Goals as goal

pub returns-in_default : goal.returns-in_default
returns-in_default g c = rw c.in_default.is (fresh g.met.M.Measure.lawful _ _ _ _ _ c.open.ensures)

pub returns-in_ok-more-in-Some-turn : goal.returns-in_ok-more-in-Some-turn
returns-in_ok-more-in-Some-turn g c = rw c.in-Some.is (turned_some g.met.M.Measure.lawful _ _ c.in-Some.field-0 _ _ c.descend.new.work _ _ _ c.if-depth-work.false c.turn.auto.work c.in-Some-turn.ensures c.back-at.ensures _ c.in_ok-more-in-Some-turn.ensures)

pub returns-in_err-more-in-Some-turn : goal.returns-in_err-more-in-Some-turn
returns-in_err-more-in-Some-turn g c =
    let size = c.descend.auto.work ∙ ap length (take_rest c.turn.new.work c.in-Some-turn.kept) ∙ length-drop c.in-Some-turn.kept c.turn.new.work in
    rw (c.from_residual.ensures, c.in-Some.is) (turned_none g.met.M.Measure.lawful _ _ c.in-Some.field-0 _ _ c.descend.new.work [] _ _ c.if-depth-work.false c.turn.auto.work c.in-Some-turn.ensures c.back-at.ensures _ size c.in_err-more-in-Some-turn.ensures)

pub returns-in-None : goal.returns-in-None
returns-in-None g c = rw c.in-Some.is (passed g.met.M.Measure.lawful _ _ c.in-Some.field-0 _ _ _ c.in-None.ensures _ c.open-in-None.ensures)
