-- What a run of calls keeps from call to call, whatever it writes of the answers.
use Rattle.std.proofs.Common.{◌≡◌, ℕ, List, [], ◌∷◌, length, take, sym, refl, ap, ◌∙◌, subst, arith}
use Rattle.measure.specs.Algebra.{Algebra}
use Rattle.sweeps.specs.declared.Arc.{Arc}
use Rattle.session.specs.declared.stages.Draft.{Draft}
use Rattle.session.specs.Nets.{Net, bare}
use Rattle.session.specs.Drafts.{DraftHolds}
use Rattle.journal.specs.declared.calls.Call.{Call}
use Rattle.journal.specs.declared.calls.Answer.{Answer}
use Rattle.journal.specs.declared.stages.Stage.{Stage}
use Rattle.journal.specs.declared.stages.Stage.TheVariants.{Drafting, Resting, Tracing}
use Rattle.journal.specs.Logs.{Sizes, Logged, network, rows}
use Rattle.journal.specs.Promise.{Kept}
use Rattle.journal.specs.Performs.{Tables, sizes_of, logged, HeldRows, RowsKept, Outcome, Taken, Passed}
use Rattle.journal.specs.Runs.{Left}
use Rattle.journal.proofs.Entries.{still_held}

module _ {V : Type 0} (m : Algebra V) (n : ℕ) (z : Sizes) where
  pub record Keeping (log : List (Logged V)) (s : Stage) (T : Tables V) : Type 0 where
    pub kept : Kept m n log
    pub outcome : Outcome m n log s T
    pub held : HeldRows m n (rows log) T.values T.counts
    pub sizes : sizes_of T ≡ z

  -- a new draft holds the network without arcs
  new_holds : (d : Draft) (arcs : List Arc) (lengths : List V) → d.nodes ≡ n → d.count ≡ 0 → d.last ≡ 0 → DraftHolds m (bare n) d arcs lengths
  new_holds d arcs lengths e f g = record {
    nodes = e;
    count = f;
    beside = refl;
    arc_room = omega arith;
    length_room = omega arith;
    in_arcs = ap (λ i. take i arcs) f;
    in_lengths = ap (λ i. take i lengths) f;
    last = g;
    ordered = record { proper = λ a low high. absurd (omega arith); sorted = λ a b low le high. absurd (omega arith) };
  }

  pub begins : (d : Draft) (T : Tables V) → sizes_of T ≡ z → d.nodes ≡ n → d.count ≡ 0 → d.last ≡ 0 → Keeping [] (Drafting d) T
  begins d T e nodes count last =
      record { kept = tt; outcome = record { at = refl; holds = new_holds d T.arcs T.lengths nodes count last }; held = λ one. absurd (omega arith); sizes = e }

  -- a call that the stage takes
  pub goes_on : (log : List (Logged V)) (s s' : Stage) (T T' : Tables V) (call : Call V) (a : Answer V) → Taken m s T call a s' T' → sizes_of T' ≡ sizes_of T → Keeping log s T → Keeping (logged n call a z T' ∷ log) s' T'
  goes_on log s s' T T' call a t same w =
      let step = subst (λ y. Kept m n (logged n call a y T' ∷ log) × Outcome m n (logged n call a y T' ∷ log) s' T' × RowsKept m n (rows log) T (rows (logged n call a y T' ∷ log)) T') w.sizes (t.step n log w.outcome w.kept) in
      record { kept = step.0; outcome = step.1; held = still_held m n (rows log) _ T T' step.2 w.held; sizes = same ∙ w.sizes }

  -- one that it does not take
  pub stays : (log : List (Logged V)) (s s' : Stage) (T T' : Tables V) (call : Call V) → Passed m s T call s' T' → Keeping log s T → Keeping log s' T'
  stays log s s' T T' call p w = subst (λ x. Keeping log x T') (sym p.stage_as) (subst (Keeping log s) (sym p.tables_as) w)

  -- the tables hold the network of a draft
  held_arcs : (net : Net V) (d : Draft) (arcs : List Arc) (lengths : List V) → DraftHolds m net d arcs lengths → (take (length net.arcs) arcs ≡ net.arcs) × (take (length net.arcs) lengths ≡ net.lengths)
  held_arcs net d arcs lengths h = (ap (λ i. take i arcs) (sym h.count) ∙ h.in_arcs, ap (λ i. take i lengths) (sym h.count) ∙ h.in_lengths)

  pub leaves : (log : List (Logged V)) (s : Stage) (T : Tables V) → Keeping log s T → Left m n log T
  leaves log (Drafting d) T w = let h = held_arcs (network n log) d T.arcs T.lengths w.outcome.holds in record { arcs = h.0; lengths = h.1; rows_held = w.held }
  leaves log (Resting s) T w = let h = held_arcs (network n log) s.draft T.arcs T.lengths w.outcome.holds.holds.draft in record { arcs = h.0; lengths = h.1; rows_held = w.held }
  leaves log (Tracing t) T w = let h = held_arcs (network n log) t.settled.draft T.arcs T.lengths w.outcome.holds.holds.settled.draft in record { arcs = h.0; lengths = h.1; rows_held = w.held }
