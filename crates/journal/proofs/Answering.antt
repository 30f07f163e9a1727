-- What a run over a table of answers keeps from call to call.
use Rattle.std.proofs.Common.{◌≡◌, ℕ, ◌+◌, ◌<◌, List, [], ◌∷◌, ◌++◌, reverse, length, get_or, take, set, Some, None, Option, sym, refl, ap, ◌∙◌, subst, arith}
use Rattle.std.proofs.lemmas.List.{reverse-append, take_more, take_more_set, take_all}
use Rattle.measure.specs.Algebra.{Algebra}
use Rattle.session.specs.declared.stages.Draft.{Draft}
use Rattle.journal.specs.declared.calls.Call.{Call}
use Rattle.journal.specs.declared.calls.Answer.{Answer}
use Rattle.journal.specs.declared.stages.Stage.{Stage}
use Rattle.journal.specs.declared.stages.Stage.TheVariants.{Drafting}
use Rattle.journal.specs.Logs.{Sizes, Logged, takes}
use Rattle.journal.specs.Performs.{Tables, sizes_of, logged, Went}
use Rattle.journal.specs.Runs.{Tells, Ran}
use Rattle.journal.proofs.Keeping.{Keeping, begins, goes_on, stays, leaves}

module _ {V : Type 0} (m : Algebra V) (n : ℕ) (z : Sizes) where
  pub record Answering (calls : List (Call V)) (answers : List (Option (Answer V))) (s : Stage) (T : Tables V) : Type 0 where
    pub log : List (Logged V)
    pub keeping : Keeping m n z log s T
    pub tells : Tells z (reverse calls) (reverse answers) log

  pub begun : (d : Draft) (T : Tables V) → sizes_of T ≡ z → d.nodes ≡ n → d.count ≡ 0 → d.last ≡ 0 → Answering [] [] (Drafting d) T
  begun d T e nodes count last = record { log = []; keeping = begins m n z d T e nodes count last; tells = refl }

  pub answered : (calls : List (Call V)) (answers : List (Option (Answer V))) (s s' : Stage) (T T' : Tables V) (call : Call V) (a : Option (Answer V)) → Went m s T call s' a T' → sizes_of T' ≡ sizes_of T
      → Answering calls answers s T → Answering (calls ++ call ∷ []) (answers ++ a ∷ []) s' T'
  answered calls answers s s' T T' call (Some a) t same w = record {
    log = logged n call a z T' ∷ w.log;
    keeping = goes_on m n z w.log s s' T T' call a t same w.keeping;
    tells = rw (reverse-append calls (call ∷ []), reverse-append answers (Some a ∷ [])) (_, w.log, refl, refl, refl, refl, w.tells);
  }
  answered calls answers s s' T T' call None p same w = record {
    log = w.log;
    keeping = stays m n z w.log s s' T T' call p w.keeping;
    tells = rw (reverse-append calls (call ∷ []), reverse-append answers (None ∷ [])) (ap (λ k. takes k call) w.keeping.outcome.at ∙ p.untaken, w.tells);
  }

  pub one_answered : (calls : List (Call V)) (answers : List (Option (Answer V))) (i : ℕ) (call : Call V) (a : Option (Answer V)) (s : Stage) (T : Tables V) → i < length calls → i < length answers → call ≡ get_or calls i call
      → Answering (take i calls ++ call ∷ []) (take i answers ++ a ∷ []) s T → Answering (take (i + 1) calls) (take (i + 1) (set answers i a)) s T
  one_answered calls answers i call a s T lt lt' is w =
      subst (λ cs. Answering cs (take (i + 1) (set answers i a)) s T) (sym (take_more calls i call lt ∙ ap (λ c. take i calls ++ c ∷ []) (sym is)))
      (subst (λ given. Answering (take i calls ++ call ∷ []) given s T) (sym (take_more_set answers i a lt')) w)

  pub all_answered : (calls : List (Call V)) (answers : List (Option (Answer V))) (i : ℕ) (s : Stage) (T : Tables V) → i ≡ length calls → Answering (take i calls) (take i answers) s T → Ran m n z calls (take (length calls) answers) T
  all_answered calls answers i s T e w = record {
    log = w.log;
    kept = w.keeping.kept;
    tells = subst (λ (cs : List (Call V)). Tells z (reverse cs) (reverse (take (length calls) answers)) w.log) (take_all i calls (omega arith))
        (subst (λ (j : ℕ). Tells z (reverse (take i calls)) (reverse (take j answers)) w.log) e w.tells);
    left = leaves m n z w.log s T w.keeping;
  }
