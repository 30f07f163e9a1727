use Rattle.std.proofs.Common.{arith, ◌∙◌, length, take}
use Rattle.answers.proofs.Rowing.{front_more, front_all, told}
use Rattle.answers.proofs.tables.Tables.row.Goals as goal

pub loop-length-preserved : goal.loop-length-preserved
loop-length-preserved g c = λ net k s t arcs lengths holds low high.
    let read = c.loop-length.row.items in
    let inv = c.loop-length.invariant net k s t arcs lengths holds low high in
    let met = c.length.ensures.meant net k s t arcs lengths (rw (c.deref.ensures.value, c.deref-in-loop-length.ensures.value) holds) in
    let here = told g.M.Measure.algebra net.nodes k t c.args.node c.len.result (length read) c.length.result c.unwrap_or.result low high (omega (arith, c.len.ensures)) met c.unwrap_or.ensures in
    front_more (take k (t c.args.node)) read c.push.new.self.items c.in-Some.length inv (here ∙ c.in-Some.is) c.in_ok-push.ensures.items

pub returns : goal.returns
returns g c = λ net k s t arcs lengths holds low high.
    let read = c.loop-length.row.items in
    let inv = c.loop-length.invariant net k s t arcs lengths holds low high in
    let met = c.length.ensures.meant net k s t arcs lengths (rw (c.deref.ensures.value, c.deref-in-loop-length.ensures.value) holds) in
    let here = told g.M.Measure.algebra net.nodes k t c.args.node c.len.result (length read) c.length.result c.unwrap_or.result low high (omega (arith, c.len.ensures)) met c.unwrap_or.ensures in
    front_all (take k (t c.args.node)) read inv (here ∙ c.in_default.is)
