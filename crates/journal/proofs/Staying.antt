-- Rows stay exact from an accepted solve to the next reopen.
use Rattle.std.proofs.Common.{◌≡◌, ℕ, Bool, true, false, cond, List, [], ◌∷◌, Some, None, Option, sym, refl, ap, ◌∙◌, subst, inl, inr}
use Rattle.measure.specs.Algebra.{Algebra}
use Rattle.sweeps.specs.declared.order.Order.{Order}
use Rattle.sweeps.specs.declared.refusal.Refusal.{Refusal}
use Rattle.session.specs.Nets.{Net}
use Rattle.journal.specs.declared.calls.Call.{Call}
use Rattle.journal.specs.declared.calls.Call.TheVariants.{Solve, Length, Trace, Next, Finish}
use Rattle.journal.specs.Answers.{accepted, by_circuit}
use Rattle.journal.specs.Logs.{Logged, Kind, drafting, resting, tracing, same, takes, leads_to, changed, rows_after, rows_cleared, stage, network, rows, target, handed}
use Rattle.journal.specs.Promise.{SolveRight, Answered}
use Rattle.journal.specs.Histories.{ExactRows, RowsStayExact}

-- stages that are the same
same_is : (k i : Kind) → same k i ≡ true → k ≡ i
same_is drafting drafting e = refl
same_is resting resting e = refl
same_is tracing tracing e = refl
same_is _ _ e = cc

resting_apart : (k : Kind) → same k resting ≡ true → ¬ (k ≡ drafting)
resting_apart k e d = let f = same_is k resting e in cc

tracing_apart : (k : Kind) → same k tracing ≡ true → ¬ (k ≡ drafting)
tracing_apart k e d = let f = same_is k tracing e in cc

-- a choice between two that are the same
either : {X : Type 0} (b : Bool) (x y : X) → x ≡ y → y ≡ cond b x y
either true x y e = sym e
either false x y e = refl

module _ {V : Type 0} (m : Algebra V) where
  -- an accepted solve
  solved : (w : Option Refusal) (net : Net V) (order : Order) (l : Logged V) → accepted l.answer ≡ true → SolveRight m w net order l → ExactRows m net record { width = order.k; source = order.source; at = l.rows }
  solved (Some why) net order l took r = absurd (let e = sym took ∙ ap accepted r in cc)
  solved None net order l took (inl r) = record { sound = r.sound; exact = r.exact }
  solved None net order l took (inr r) = absurd (let e = sym took ∙ ap accepted r.answer in cc)

  module _ (n : ℕ) (l : Logged V) (log : List (Logged V)) (before : ¬ (stage log ≡ drafting) → ExactRows m (network n log) (rows log)) where
    abbrev net : Net V
    net = network n log

    by_call : (call : Call V) → accepted l.answer ≡ true → takes (stage log) call ≡ true → Answered m net (rows log) (target log) (handed log) call l → ¬ (leads_to call ≡ drafting)
        → ExactRows m (changed call net) (rows_after call l.rows (rows log))
    by_call (Solve order v c) took t r s = solved _ net order l took r
    by_call (Length j place) took t r s = before (resting_apart (stage log) t)
    by_call (Trace j w p) took t r s = before (resting_apart (stage log) t)
    by_call Next took t r s = before (tracing_apart (stage log) t)
    by_call Finish took t r s = before (tracing_apart (stage log) t)
    by_call _ took t r s = absurd (s refl)

    -- no call on another stage than a draft clears the rows when it is refused
    uncleared : (call : Call V) → takes (stage log) call ≡ true → ¬ (stage log ≡ drafting) → rows_cleared call (rows log) ≡ rows log
    uncleared (Solve order v c) t s = absurd (s (same_is (stage log) drafting t))
    uncleared _ t s = refl

    by_answer : (b : Bool) → accepted l.answer ≡ b → takes (stage log) l.call ≡ true → Answered m net (rows log) (target log) (handed log) l.call l → ¬ (cond b (leads_to l.call) (stage log) ≡ drafting)
        → ExactRows m (cond b (changed l.call net) net) (cond b (rows_after l.call l.rows (rows log)) (cond (by_circuit l.answer) (rows_cleared l.call (rows log)) (rows log)))
    by_answer true e t r s = by_call l.call e t r s
    by_answer false e t r s = subst (ExactRows m net) (either (by_circuit l.answer) (rows_cleared l.call (rows log)) (rows log) (uncleared l.call t s)) (before s)

  pub stay_exact : RowsStayExact m
  stay_exact n [] kept s = absurd (s refl)
  stay_exact n (l ∷ log) kept s = by_answer n l log (stay_exact n log kept.1) (accepted l.answer) refl kept.0.taken kept.0.answered s
