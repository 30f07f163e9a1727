-- What a trace that is opened, or is not, adds to a log.
use Rattle.std.proofs.Common.{◌≡◌, ℕ, ◌≤◌, min, Bool, List, length, take, Some, None, Ok, Err, Option, sym, refl, ap, ◌∙◌, subst, inr, arith, length-take}
use Rattle.std.proofs.lemmas.Bool.Decides.{nat_tests}
use Rattle.measure.specs.Algebra.{Algebra}
use Rattle.sweeps.specs.declared.Arc.{Arc}
use Rattle.sweeps.specs.declared.refusal.Refusal.{Refusal}
use Rattle.tracing.specs.declared.Step.{Step}
use Rattle.session.specs.declared.stages.Settled.{Settled}
use Rattle.session.specs.declared.stages.Trace.{Trace as Tracer}
use Rattle.session.specs.Drafts.{judged}
use Rattle.session.specs.Traces.{trace_verdict, TraceDone}
use Rattle.session.proofs.Following.{trace_holds}
use Rattle.journal.specs.declared.calls.Call.TheVariants.{Trace}
use Rattle.journal.specs.declared.calls.Answer.TheVariants.{Refused, Done}
use Rattle.journal.specs.declared.stages.Stage.TheVariants.{Resting, Tracing}
use Rattle.journal.specs.Answers.{as_done}
use Rattle.journal.specs.Logs.{same, resting, network, rows}
use Rattle.journal.specs.Performs.{Tables, tables, Rests, Taken}
use Rattle.journal.proofs.Entries.{declined_taken}

-- tables that are large enough stay so when they are larger
wider : (n k : ℕ) (null : Bool) (target w p w' p' : ℕ) → w ≤ w' → p ≤ p' → trace_verdict n k null target w p ≡ None → trace_verdict n k null target w' p' ≡ None
wider n k null target w p w' p' a b e = grind (arith, nat_tests)

module _ {V : Type 0} (m : Algebra V) (s : Settled) (arcs : List Arc) (lengths values : List V) (counts : List ℕ) (work : List Step) (path : List ℕ)
    (target w p w' p' : ℕ) (cut_w : w' ≡ min w (length work)) (cut_p : p' ≡ min p (length path)) where
  abbrev before : Tables V
  before = tables arcs lengths values counts work path

  abbrev verdict : Option Refusal
  verdict = trace_verdict s.draft.nodes s.order.k s.null target (length (take w' work)) (length (take p' path))

  lent_work : length (take w' work) ≡ min w (length work)
  lent_work = omega (arith, length-take w' work)

  lent_path : length (take p' path) ≡ min p (length path)
  lent_path = omega (arith, length-take p' path)

  -- the verdict over the session is that over the network, the rows and the cells that are lent
  as_lent : (n k : ℕ) → s.draft.nodes ≡ n → s.order.k ≡ k → verdict ≡ trace_verdict n k s.null target (min w (length work)) (min p (length path))
  as_lent n k e f = λ j. trace_verdict (e j) (f j) s.null target (lent_work j) (lent_path j)

  opened_by : (v : Option Refusal) (t : Tracer) → verdict ≡ v → TraceDone v s target (Ok t) → Taken m (Resting s) before (Trace target w p) Done (Tracing t) before
  opened_by (Some why) t e done = cc
  opened_by None t e done = record {
    step = λ n log o kept.
        let h = o.holds.holds in
        let whole : trace_verdict s.draft.nodes s.order.k s.null target (length work) (length path) ≡ None =
        wider s.draft.nodes s.order.k s.null target _ _ (length work) (length path) (omega (arith, lent_work)) (omega (arith, lent_path)) e in (
          (
            record {
              taken = ap (λ k. same k resting) o.at;
              answered = record { null = s.null; null_told = h.null_told; answer = ap (λ v. as_done (judged v tt)) (sym e ∙ as_lent _ _ h.draft.nodes h.width) };
            },
            kept,
          ),
          record {
            at = refl;
            holds = record {
              table = o.holds.table;
              holds = trace_holds m (network n log) (rows log).width (rows log).source o.holds.table target s arcs lengths values counts work path h (Ok t) (subst (λ v. TraceDone v s target (Ok t)) (sym whole) done);
              rows_held = o.holds.rows_held;
            };
          },
          inr (refl, refl, refl),
        );
  }

  pub opened_taken : (t : Tracer) → TraceDone verdict s target (Ok t) → Taken m (Resting s) before (Trace target w p) Done (Tracing t) before
  opened_taken t done = opened_by verdict t refl done

  unopened_by : (v : Option Refusal) (q : Settled × Refusal) → verdict ≡ v → TraceDone v s target (Err q) → Taken m (Resting s) before (Trace target w p) (Refused q.1) (Resting q.0) before
  unopened_by None q e done = absurd done
  unopened_by (Some why) q e done =
      let back : s ≡ q.0 = (let x : (s, why) ≡ q = cc in ap (λ (y : Settled × Refusal). y.0) x) in
      let reason : q.1 ≡ why = (let x : q ≡ (s, why) = cc in ap (λ (y : Settled × Refusal). y.1) x) in
      declined_taken m _ _ _ _ _ q.1 refl (λ r. refl) refl refl (λ n log o.
      let h = o.holds.holds in (
        record {
          taken = ap (λ k. same k resting) o.at;
          answered = record { null = s.null; null_told = h.null_told; answer = ap Refused reason ∙ ap (λ v. as_done (judged v tt)) (sym e ∙ as_lent _ _ h.draft.nodes h.width) };
        },
        subst (λ x. Rests m n (network n log) (rows log) x before) back o.holds,
      ))

  pub unopened_taken : (q : Settled × Refusal) → TraceDone verdict s target (Err q) → Taken m (Resting s) before (Trace target w p) (Refused q.1) (Resting q.0) before
  unopened_taken q done = unopened_by verdict q refl done
