-- What one more entry makes of a log, whatever the call.
use Rattle.std.proofs.Common.{◌≡◌, ℕ, Bool, true, false, cond, List, [], ◌∷◌, sym, refl, ap, ◌∙◌, subst, inl, inr}
use Rattle.measure.specs.Algebra.{Algebra}
use Rattle.sweeps.specs.declared.refusal.Refusal.{Refusal}
use Rattle.session.specs.Nets.{Net}
use Rattle.journal.specs.declared.calls.Call.{Call}
use Rattle.journal.specs.declared.calls.Call.TheVariants.{Put}
use Rattle.journal.specs.declared.calls.Answer.{Answer}
use Rattle.journal.specs.declared.calls.Answer.TheVariants.{Refused}
use Rattle.journal.specs.declared.stages.Stage.{Stage}
use Rattle.journal.specs.Answers.{is_circuit, accepted}
use Rattle.journal.specs.Logs.{Logged, Rows, changed, rows_cleared, network, rows, target, handed}
use Rattle.journal.specs.Promise.{Right}
use Rattle.journal.specs.Performs.{Tables, kind, sizes_of, logged, HeldRows, Holds, Outcome, RowsKept, Taken}

-- a choice between two that are the same
pub either_way : {X : Type 0} (b : Bool) (x : X) → x ≡ cond b x x
either_way true x = refl
either_way false x = refl

module _ {V : Type 0} where
  nodes_kept : (call : Call V) (net : Net V) → (changed call net).nodes ≡ net.nodes
  nodes_kept (Put start end x) net = refl
  nodes_kept _ net = refl

  -- no call changes the number of nodes
  pub nodes_are : (n : ℕ) (log : List (Logged V)) → (network n log).nodes ≡ n
  nodes_are n [] = refl
  nodes_are n (l ∷ log) = go (accepted l.answer) (nodes_are n log)
    where
      go : (b : Bool) → (network n log).nodes ≡ n → (cond b (changed l.call (network n log)) (network n log)).nodes ≡ n
      go true e = nodes_kept l.call (network n log) ∙ e
      go false e = e

-- a call and an answer under other names
pub taken_as : {V : Type 0} (m : Algebra V) (s : Stage) (T : Tables V) (call call' : Call V) (a a' : Answer V) (s' : Stage) (T' : Tables V) → call ≡ call' → a ≡ a' → Taken m s T call' a' s' T' → Taken m s T call a s' T'
taken_as m s T call call' a a' s' T' e f t = subst (λ k. Taken m s T k a s' T') (sym e) (subst (λ b. Taken m s T call' b s' T') (sym f) t)

-- rows that were held are held after a call
pub still_held : {V : Type 0} (m : Algebra V) (n : ℕ) (rows rows' : Rows V) (T T' : Tables V) → RowsKept m n rows T rows' T' → HeldRows m n rows T.values T.counts → HeldRows m n rows' T'.values T'.counts
still_held m n rows rows' T T' (inl new) h = new
still_held m n rows rows' T T' (inr same) h =
    subst (λ r. HeldRows m n r T'.values T'.counts) (sym same.0) (subst (λ v. HeldRows m n rows v T'.counts) (sym same.1) (subst (λ c. HeldRows m n rows T.values c) (sym same.2) h))

-- a call that is refused and clears no rows
pub declined_taken : {V : Type 0} (m : Algebra V) (s s' : Stage) (T T' : Tables V) (call : Call V) (why : Refusal) → kind s' ≡ kind s → ((r : Rows V) → rows_cleared call r ≡ r) → T'.values ≡ T.values → T'.counts ≡ T.counts
    → ((n : ℕ) (log : List (Logged V)) → Outcome m n log s T → Right m n log (logged n call (Refused why) (sizes_of T) T') × Holds m n (network n log) (rows log) (target log) (handed log) s' T')
    → Taken m s T call (Refused why) s' T'
declined_taken m s s' T T' call why k cleared v c right = record {
  step = λ n log o kept.
      let r = right n log o in
      let e : cond (is_circuit why) (rows_cleared call (rows log)) (rows log) ≡ rows log = ap (λ x. cond (is_circuit why) x (rows log)) (cleared (rows log)) ∙ sym (either_way (is_circuit why) (rows log)) in (
        (r.0, kept),
        record { at = o.at ∙ sym k; holds = subst (λ x. Holds m n (network n log) x (target log) (handed log) s' T') (sym e) r.1 },
        inr (e, v, c),
      );
}
