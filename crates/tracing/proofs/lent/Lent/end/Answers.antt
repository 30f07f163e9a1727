use Rattle.std.proofs.Common.{sym, ◌∙◌}
use Rattle.tracing.proofs.Turning.{end_last}
use Rattle.tracing.proofs.lent.Lent.end.Goals as goal

pub returns-in-len1-up : goal.returns-in-len1-up
returns-in-len1-up g c = c.back.ensures ∙ sym (end_last c.args.self.now.arcs.now c.args.from c.args.steps.now c.in-len1-up.len_at_least)
