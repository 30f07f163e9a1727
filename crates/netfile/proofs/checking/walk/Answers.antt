use Rattle.std.proofs.Common.{Ok, subst, ◌∙◌}
use Rattle.netfile.specs.Reading.{Told, Passed}
use Rattle.netfile.proofs.Runs.{passed}
use Rattle.netfile.proofs.checking.walk.Goals as goal

past : (c : goal.In-Some) → Passed c.loop.reader c.in-Some.field-0 c.next.new.self
past c = subst (λ o. Told c.loop.reader (Ok o) c.next.new.self) c.in-Some.is c.in_ok-next.ensures

pub loop-preserved : goal.loop-preserved
loop-preserved c =
    let h = past c in
    let i = c.loop.invariant in
    record { file = h.same.file ∙ i.file; limits = h.same.limits ∙ i.limits; reached = passed c.loop.reader c.next.new.self c.in-Some.field-0 i.reached h }
