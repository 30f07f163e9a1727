use Rattle.std.proofs.Common.{◌≡◌, ◌<◌, List, ◌++◌, length, get_or, ℤ, pos, is_ok, string_bytes, sym, ap, ◌∙◌, arith, lit<, take_all, rules}
use Rattle.std.proofs.ResultArms.{chosen}
use Rattle.std.specs.Fmt.{signed_decimal}
use Rattle.columns.specs.Text.{row_text}
use Rattle.columns.proofs.Places.{nth_none, nth_value}
use Rattle.columns.proofs.Writing.{step_more, step_first}
use Rattle.columns.proofs.text.column_text.Goals as goal
use Rattle.columns.proofs.text.column_text.Goals.{then-i-gt0+in_ok-push, else-i-gt0, in-Some+in_ok-write, in_default}

pub loop-i-preserved : goal.loop-i-preserved
loop-i-preserved g c =
    let cs : List ℤ = g.M.Columns.columnar.tell c.args.value.now in
    let w = g.met.M.Columns.inverse.told_width c.args.value.now in
    let lt : c.loop-i.i < length cs = omega (arith, c.width-i-end.ensures) in
    elim c.match-column.branch [
      | in-Some+in_ok-write v ↦
          let there : v.in-Some.number ≡ get_or cs c.loop-i.i (pos 0) = nth_value cs c.loop-i.i v.in-Some.number (pos 0) (sym v.in-Some.ensures) in
          let pushed : string_bytes v.write.new.self ≡ string_bytes c.if-i-gt0.text ++ signed_decimal v.in-Some.number = search rules in
          elim c.if-i-gt0.branch [
            | then-i-gt0+in_ok-push u ↦ ap string_bytes v.text-is ∙ step_more cs c.loop-i.i u.if-i-gt0.true lt pushed (search rules) there c.loop-i.invariant
            | else-i-gt0 u ↦ ap string_bytes v.text-is ∙ step_first cs c.loop-i.i (omega arith) (omega arith) pushed there (ap string_bytes u.text-is ∙ c.loop-i.invariant)
          ]
      | in_default v ↦ absurd (omega (arith, nth_none cs c.loop-i.i (sym c.column.ensures ∙ v.in_default.is)))
    ]

pub returns : goal.returns
returns g c = λ small.
    let w = g.met.M.Columns.inverse.told_width c.args.value.now in
    c.loop-i.invariant ∙ ap row_text (take_all c.loop-i.i (g.M.Columns.columnar.tell c.args.value.now) (omega (arith, c.width-i-end.ensures)))
