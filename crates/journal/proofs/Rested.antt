-- What the calls on a settled session add to a log.
use Rattle.std.proofs.Common.{◌≡◌, ℕ, ◌-◌, ◌*◌, ◌≤◌, min, List, [], length, take, Some, None, Ok, Err, Option, Result, sym, refl, ap, ◌∙◌, subst, inl, inr, arith}
use Rattle.std.proofs.lemmas.Bool.Decides.{nat_tests}
use Rattle.std.specs.List.{slice_get}
use Rattle.measure.specs.Algebra.{Algebra}
use Rattle.walks.specs.Rows.{Table}
use Rattle.sweeps.specs.declared.Arc.{Arc}
use Rattle.sweeps.specs.declared.refusal.Refusal.{Refusal}
use Rattle.sweeps.specs.Tables.{RowsHeld, Cleared}
use Rattle.tracing.specs.declared.Step.{Step}
use Rattle.session.specs.declared.stages.Draft.{Draft}
use Rattle.session.specs.declared.stages.Settled.{Settled}
use Rattle.session.specs.Nets.{Net}
use Rattle.session.specs.Drafts.{judged, DraftHolds}
use Rattle.session.specs.Settled.{SettledHolds, length_verdict, length_answer, Emptied}
use Rattle.journal.specs.declared.calls.Call.TheVariants.{Length, Reopen}
use Rattle.journal.specs.declared.calls.Answer.TheVariants.{Done, Value}
use Rattle.journal.specs.declared.stages.Stage.TheVariants.{Drafting, Resting}
use Rattle.journal.specs.Answers.{told}
use Rattle.journal.specs.Logs.{Logged, same, resting, network, rows}
use Rattle.journal.specs.Performs.{Tables, tables, Outcome, Taken}
use Rattle.journal.proofs.Entries.{nodes_are, declined_taken}
use Rattle.journal.proofs.RowCells.{cleared_held}

module _ {V : Type 0} (m : Algebra V) where
  -- two tables of rows that agree on the nodes answer alike
  answers_alike : (n k : ℕ) (t u : Table V) → ((j : ℕ) → 1 ≤ j → j ≤ n → t j ≡ u j) → (node place : ℕ) → length_answer m n k t node place ≡ length_answer m n k u node place
  answers_alike n k t u same node place = go (length_verdict n k node place) refl
    where
      within : length_verdict n k node place ≡ None → (1 ≤ node) × (node ≤ n)
      within e = (grind (arith, nat_tests), grind (arith, nat_tests))

      go : (w : Option Refusal) → length_verdict n k node place ≡ w → judged w (slice_get (t node) (place - 1)) ≡ judged w (slice_get (u node) (place - 1))
      go (Some why) e = refl
      go None e = let b = within e in ap (λ row. Ok (slice_get row (place - 1))) (same node b.0 b.1)

  module _ (s : Settled) (arcs : List Arc) (lengths values : List V) (counts : List ℕ) (work : List Step) (path : List ℕ) where
    abbrev before : Tables V
    before = tables arcs lengths values counts work path

    answered : (node place : ℕ) (r : Result (Option V) Refusal)
        → ((net : Net V) (k source : ℕ) (t : Table V) (arcs : List Arc) (lengths : List V) → SettledHolds m net k source t s arcs lengths values counts → r ≡ length_answer m net.nodes k t node place)
        → (n : ℕ) (log : List (Logged V)) → Outcome m n log (Resting s) before → r ≡ length_answer m (network n log).nodes (rows log).width (rows log).at node place
    answered node place r meant n log o =
        let h = o.holds.holds in
        let w = h.width in
        let low = s.order.ok.0 in
        let held = o.holds.rows_held (omega arith) in
        let e = nodes_are n log in
        meant _ _ _ _ _ _ h ∙ answers_alike (network n log).nodes (rows log).width _ _ (λ j one le. sym (h.held.at j one le) ∙ held.at j one (omega arith)) node place

    pub length_taken : (node place : ℕ) (r : Result (Option V) Refusal)
        → ((net : Net V) (k source : ℕ) (t : Table V) (arcs : List Arc) (lengths : List V) → SettledHolds m net k source t s arcs lengths values counts → r ≡ length_answer m net.nodes k t node place)
        → Taken m (Resting s) before (Length node place) (told Value r) (Resting s) before
    length_taken node place (Ok x) meant = record {
      step = λ n log o kept.
          ((record { taken = ap (λ k. same k resting) o.at; answered = ap (told Value) (answered node place (Ok x) meant n log o) }, kept), record { at = refl; holds = o.holds }, inr (refl, refl, refl));
    }
    length_taken node place (Err why) meant =
        declined_taken m _ _ _ _ _ why refl (λ r. refl) refl refl (λ n log o. (record { taken = ap (λ k. same k resting) o.at; answered = ap (told Value) (answered node place (Err why) meant n log o) }, o.holds))

    pub reopen_taken : (d : Draft) (values' : List V) (counts' : List ℕ) → d ≡ s.draft → Emptied m s.draft.nodes s.order.k values counts values' counts'
        → Taken m (Resting s) before Reopen Done (Drafting d) (tables arcs lengths values' counts' work path)
    reopen_taken d values' counts' back emptied = record {
      step = λ n log o kept.
          let h = o.holds.holds in (
            (record { taken = ap (λ k. same k resting) o.at; answered = refl }, kept),
            record {
              at = refl;
              holds = subst (λ x. DraftHolds m (network n log) x arcs lengths) (sym back) h.draft;
            },
            inl (λ one. cleared n (rows log).width (h.draft.nodes ∙ nodes_are n log) h.width (subst (λ i. RowsHeld m i (rows log).width values counts o.holds.table) (nodes_are n log) h.held)),
          );
    }
      where
        cleared : (n k : ℕ) {t : Table V} → s.draft.nodes ≡ n → s.order.k ≡ k → RowsHeld m n k values counts t → RowsHeld m n k values' counts' (λ j. [])
        cleared n k e f held =
            let a : min (n * k) (length values) ≡ n * k = (let z = held.value_cells in omega arith) in
            let b : min n (length counts) ≡ n = (let z = held.count_cells in omega arith) in
            let moved : Cleared m (min (n * k) (length values)) (min n (length counts)) (take (n * k) values') (take n counts') =
            subst (λ q. Cleared m (min (n * q) (length values)) (min n (length counts)) (take (n * q) values') (take n counts')) f
            (subst (λ p. Cleared m (min (p * s.order.k) (length values)) (min p (length counts)) (take (p * s.order.k) values') (take p counts')) e emptied.rows) in
            cleared_held m n k values' counts' (subst (λ y. Cleared m (n * k) y (take (n * k) values') (take n counts')) b (subst (λ x. Cleared m x (min n (length counts)) (take (n * k) values') (take n counts')) a moved))
