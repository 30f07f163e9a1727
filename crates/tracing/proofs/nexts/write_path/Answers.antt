use Rattle.std.proofs.Common.{◌≤◌, ◌∙◌, length, arith}
use Rattle.std.proofs.lemmas.Iterator.Adapters.{YieldsList-from_rev_slice}
use Rattle.std.proofs.lemmas.Iterator.Consumers.{YieldsList-from_enumerate, YieldsList-turn}
use Rattle.std.proofs.lemmas.List.{length_push, drop-set-lt}
use Rattle.tracing.proofs.Calling.{written_more}
use Rattle.tracing.proofs.nexts.write_path.Goals as goal

pub loop-i-preserved : goal.loop-i-preserved
loop-i-preserved c =
    let size : length c.args.steps.now ≤ length c.loop-i.path = omega (arith, c.requires) in
    let all = YieldsList-from_enumerate (YieldsList-from_rev_slice c.args.steps.now cc) cc in
    let turn = YieldsList-turn all c.loop-i.yielded _ c.loop-i.yielded_by _ _ (c.in-Some.i, c.in-Some.step) c.in-Some.is c.next.ensures.steps in
    let more = written_more c.args.steps.now c.loop-i.path (length c.loop-i.yielded) c.in-Some.i c.in-Some.step.now size turn c.loop-i.invariant.0 in
    rw length_push (more.1, drop-set-lt (length c.args.steps.now) c.loop-i.path c.in-Some.i c.in-Some.step.now.arc more.0 ∙ c.loop-i.invariant.1)
