use Rattle.std.proofs.Common.{◌≡◌, ◌+◌, ◌-◌, ◌<◌, Ok, ap, ◌∙◌, subst, arith}
use Rattle.std.specs.List.{slice_get}
use Rattle.sweeps.specs.Tables.{start_of, count_of}
use Rattle.session.proofs.Reading.{copied_at, past_row, in_row, answered}
use Rattle.session.proofs.stages.Settled.length.Goals as goal
use Rattle.session.proofs.stages.Settled.length.Goals.{then-node-counts-via-then-node-counts, then-node-counts-via-else-node-counts+then-place-counts}

pub returns-then-node-counts-clause-meant : goal.returns-then-node-counts-clause-meant
returns-then-node-counts-clause-meant g c = λ net k s t arcs lengths h.
    let n = h.draft.nodes in
    let w = h.width in
    let past : count_of c.args.counts.now c.args.node < c.args.place = elim c.then-node-counts.branch [
      | then-node-counts-via-then-node-counts w ↦ absurd (omega (arith, h.held.count_cells, w.if-node-counts.true))
      | then-node-counts-via-else-node-counts+then-place-counts w ↦ omega (arith, w.if-place-counts.true)
    ] in
    ap Ok (past_row g.M.Measure.algebra _ _ _ _ _ h.held c.args.node (omega arith) (omega arith) c.args.place past) ∙ answered g.M.Measure.algebra _ _ t c.args.node c.args.place (omega arith) (omega arith) (omega arith) (omega arith)

pub returns-clause-meant : goal.returns-clause-meant
returns-clause-meant g c = λ net k s t arcs lengths h.
    let n = h.draft.nodes in
    let w = h.width in
    let e = c.copied.ensures ∙ copied_at _ _ _ c.get.ensures.lookup in
    let there = subst (λ i. c.copied.result ≡ slice_get c.args.values.now (start_of i c.args.node + (c.args.place - 1))) w e in
    ap Ok (there ∙ in_row g.M.Measure.algebra _ _ _ _ _ h.held c.args.node (omega arith) (omega arith) c.args.place (omega arith) (omega arith)) ∙ answered g.M.Measure.algebra _ _ t c.args.node c.args.place (omega arith) (omega arith) (omega arith) (omega arith)
