-- What a replay keeps from call to call.
use Rattle.std.proofs.Common.{◌≡◌, ℕ, ◌+◌, ◌<◌, ◌≤◌, List, [], ◌∷◌, ◌++◌, map, reverse, length, get_or, take, sym, refl, ap, ◌∙◌, subst, inl, inr}
use mathlib.Core.List.{map-append}
use Rattle.std.proofs.lemmas.List.{reverse-append, take_more, take_all}
use Rattle.measure.specs.Algebra.{Algebra}
use Rattle.session.specs.declared.stages.Draft.{Draft}
use Rattle.journal.specs.declared.calls.Call.{Call}
use Rattle.journal.specs.declared.calls.Answer.{Answer}
use Rattle.journal.specs.declared.replaying.Entry.{Entry}
use Rattle.journal.specs.declared.stages.Stage.{Stage}
use Rattle.journal.specs.declared.stages.Stage.TheVariants.{Drafting}
use Rattle.journal.specs.Logs.{Sizes, takes}
use Rattle.journal.specs.Performs.{Tables, sizes_of, logged, Taken, Passed}
use Rattle.journal.specs.Replays.{shown, log_of, Follows, Replayed}
use Rattle.journal.proofs.Keeping.{Keeping, begins, goes_on, stays, leaves}

module _ {V : Type 0} (m : Algebra V) (n : ℕ) (z : Sizes) where
  pub record Noting (calls : List (Call V)) (entries : List (Entry V)) (s : Stage) (T : Tables V) : Type 0 where
    pub keeping : Keeping m n z (log_of z entries) s T
    pub follows : Follows (reverse calls) (log_of z entries)

  pub begun : (entries : List (Entry V)) → entries ≡ [] → (d : Draft) (T : Tables V) → sizes_of T ≡ z → d.nodes ≡ n → d.count ≡ 0 → d.last ≡ 0 → Noting [] entries (Drafting d) T
  begun entries none d T e nodes count last = subst (λ es. Noting [] es (Drafting d) T) (sym none) record { keeping = begins m n z d T e nodes count last; follows = refl }

  newer : (entries : List (Entry V)) (e : Entry V) → log_of z (entries ++ e ∷ []) ≡ shown z e ∷ log_of z entries
  newer entries e = ap reverse (map-append (shown z) entries (e ∷ [])) ∙ reverse-append (map (shown z) entries) (shown z e ∷ [])

  pub went_on : (calls : List (Call V)) (entries : List (Entry V)) (s s' : Stage) (T T' : Tables V) (call : Call V) (a : Answer V) (e : Entry V) → Taken m s T call a s' T'
      → ((y : Sizes) → shown y e ≡ logged n call a y T') → sizes_of T' ≡ sizes_of T → Noting calls entries s T → Noting (calls ++ call ∷ []) (entries ++ e ∷ []) s' T'
  went_on calls entries s s' T T' call a e t is same w =
      let log = log_of z entries in
      let l = logged n call a z T' in
      let on = goes_on m n z log s s' T T' call a t same w.keeping in
      let grown : log_of z (entries ++ e ∷ []) ≡ l ∷ log = newer entries e ∙ ap (λ x. x ∷ log) (is z) in
      record {
        keeping = subst (λ x. Keeping m n z x s' T') (sym grown) on;
        follows = rw (reverse-append calls (call ∷ [])) (inr (l, log, grown, refl, on.kept.0.taken, w.follows));
      }

  pub passed_by : (calls : List (Call V)) (entries : List (Entry V)) (s s' : Stage) (T T' : Tables V) (call : Call V) → Passed m s T call s' T' → Noting calls entries s T → Noting (calls ++ call ∷ []) entries s' T'
  passed_by calls entries s s' T T' call p w = record {
    keeping = stays m n z _ s s' T T' call p w.keeping;
    follows = rw (reverse-append calls (call ∷ [])) (inl (ap (λ k. takes k call) w.keeping.outcome.at ∙ p.untaken, w.follows));
  }

  pub one_more : (calls : List (Call V)) (i : ℕ) (call : Call V) (entries : List (Entry V)) (s : Stage) (T : Tables V) → i < length calls → call ≡ get_or calls i call
      → Noting (take i calls ++ call ∷ []) entries s T → Noting (take (i + 1) calls) entries s T
  one_more calls i call entries s T lt is w = subst (λ cs. Noting cs entries s T) (sym (take_more calls i call lt ∙ ap (λ c. take i calls ++ c ∷ []) (sym is))) w

  pub all_made : (calls : List (Call V)) (i : ℕ) (entries : List (Entry V)) (s : Stage) (T : Tables V) → length calls ≤ i → Noting (take i calls) entries s T → Replayed m n z calls entries T
  all_made calls i entries s T le w = record {
    kept = w.keeping.kept;
    follows = subst (λ cs. Follows (reverse cs) (log_of z entries)) (take_all i calls le) w.follows;
    left = leaves m n z (log_of z entries) s T w.keeping;
  }
