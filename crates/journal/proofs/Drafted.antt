-- What the calls on a draft that change its network add to a log.
use Rattle.std.proofs.Common.{ℕ, ◌+◌, true, false, List, length, Ok, Err, Result, refl, ap, ◌∙◌, inr}
use Rattle.measure.specs.Algebra.{Algebra}
use Rattle.sweeps.specs.declared.Arc.{Arc}
use Rattle.sweeps.specs.declared.refusal.Refusal.{Refusal}
use Rattle.tracing.specs.declared.Step.{Step}
use Rattle.session.specs.declared.stages.Draft.{Draft}
use Rattle.session.specs.Nets.{Net}
use Rattle.session.specs.Drafts.{judged, DraftHolds, put_verdict, PutDone, PutMeant, relength_verdict, RelengthDone, RelengthMeant, mark_verdict, MarkDone}
use Rattle.session.proofs.Holding.{mark_holds}
use Rattle.journal.specs.declared.calls.Call.TheVariants.{Put, Relength, Close, Open}
use Rattle.journal.specs.declared.calls.Answer.TheVariants.{Numbered}
use Rattle.journal.specs.declared.stages.Stage.TheVariants.{Drafting}
use Rattle.journal.specs.Answers.{told, as_done}
use Rattle.journal.specs.Logs.{same, drafting}
use Rattle.journal.specs.Performs.{Tables, tables, Taken}
use Rattle.journal.proofs.Entries.{declined_taken}

module _ {V : Type 0} (m : Algebra V) (d : Draft) (arcs : List Arc) (lengths values : List V) (counts : List ℕ) (work : List Step) (path : List ℕ) where
  abbrev before : Tables V
  before = tables arcs lengths values counts work path

  pub put_taken : (start end : ℕ) (x : V) (r : Result ℕ Refusal) (d' : Draft) (arcs' : List Arc) (lengths' : List V)
      → PutDone m d arcs lengths start end x r d' arcs' lengths'
      → ((net : Net V) → DraftHolds m net d arcs lengths → PutMeant m net start end x r d' arcs' lengths')
      → Taken m (Drafting d) before (Put start end x) (told Numbered r) (Drafting d') (tables arcs' lengths' values counts work path)
  put_taken start end x (Ok i) d' arcs' lengths' done meant = record {
    step = λ n log o kept.
        let h = o.holds in (
          (record { taken = ap (λ k. same k drafting) o.at; answered = ap (told Numbered) (done.answer ∙ (λ j. judged (put_verdict m (h.nodes j) (h.count j) (h.last j) (length arcs) (length lengths) start end x) (h.count j + 1))) }, kept),
          record { at = refl; holds = meant _ h },
          inr (refl, refl, refl),
        );
  }
  put_taken start end x (Err why) d' arcs' lengths' done meant =
      declined_taken m _ _ _ _ _ why refl (λ r. refl) refl refl (λ n log o. let h = o.holds in (record { taken = ap (λ k. same k drafting) o.at; answered = ap (told Numbered) (done.answer ∙ (λ j. judged (put_verdict m (h.nodes j) (h.count j) (h.last j) (length arcs) (length lengths) start end x) (h.count j + 1))) }, meant _ h))

  pub relength_taken : (a : ℕ) (x : V) (r : Result (Unit {0}) Refusal) (lengths' : List V)
      → RelengthDone m d lengths a x r lengths'
      → ((net : Net V) (arcs : List Arc) → DraftHolds m net d arcs lengths → RelengthMeant m net a x r d arcs lengths')
      → Taken m (Drafting d) before (Relength a x) (as_done r) (Drafting d) (tables arcs lengths' values counts work path)
  relength_taken a x (Ok u) lengths' done meant = record {
    step = λ n log o kept.
        let h = o.holds in (
          (record { taken = ap (λ k. same k drafting) o.at; answered = ap as_done (done.answer h.length_room ∙ (λ j. judged (relength_verdict m (h.count j) a x) tt)) }, kept),
          record { at = refl; holds = meant _ arcs h },
          inr (refl, refl, refl),
        );
  }
  relength_taken a x (Err why) lengths' done meant =
      declined_taken m _ _ _ _ _ why refl (λ r. refl) refl refl (λ n log o. let h = o.holds in (record { taken = ap (λ k. same k drafting) o.at; answered = ap as_done (done.answer h.length_room ∙ (λ j. judged (relength_verdict m (h.count j) a x) tt)) }, meant _ arcs h))

  pub close_taken : (a : ℕ) (r : Result (Unit {0}) Refusal) (arcs' : List Arc) → MarkDone d arcs a false r arcs'
      → Taken m (Drafting d) before (Close a) (as_done r) (Drafting d) (tables arcs' lengths values counts work path)
  close_taken a (Ok u) arcs' done = record {
    step = λ n log o kept.
        let h = o.holds in (
          (record { taken = ap (λ k. same k drafting) o.at; answered = ap as_done (done.answer h.arc_room ∙ (λ j. judged (mark_verdict (h.count j) a) tt)) }, kept),
          record { at = refl; holds = mark_holds m _ d arcs lengths a false (Ok u) arcs' h done },
          inr (refl, refl, refl),
        );
  }
  close_taken a (Err why) arcs' done =
      declined_taken m _ _ _ _ _ why refl (λ r. refl) refl refl (λ n log o. let h = o.holds in (record { taken = ap (λ k. same k drafting) o.at; answered = ap as_done (done.answer h.arc_room ∙ (λ j. judged (mark_verdict (h.count j) a) tt)) }, mark_holds m _ d arcs lengths a false (Err why) arcs' h done))

  pub open_taken : (a : ℕ) (r : Result (Unit {0}) Refusal) (arcs' : List Arc) → MarkDone d arcs a true r arcs'
      → Taken m (Drafting d) before (Open a) (as_done r) (Drafting d) (tables arcs' lengths values counts work path)
  open_taken a (Ok u) arcs' done = record {
    step = λ n log o kept.
        let h = o.holds in (
          (record { taken = ap (λ k. same k drafting) o.at; answered = ap as_done (done.answer h.arc_room ∙ (λ j. judged (mark_verdict (h.count j) a) tt)) }, kept),
          record { at = refl; holds = mark_holds m _ d arcs lengths a true (Ok u) arcs' h done },
          inr (refl, refl, refl),
        );
  }
  open_taken a (Err why) arcs' done =
      declined_taken m _ _ _ _ _ why refl (λ r. refl) refl refl (λ n log o. let h = o.holds in (record { taken = ap (λ k. same k drafting) o.at; answered = ap as_done (done.answer h.arc_room ∙ (λ j. judged (mark_verdict (h.count j) a) tt)) }, mark_holds m _ d arcs lengths a true (Err why) arcs' h done))
