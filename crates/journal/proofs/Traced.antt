-- What the calls on an open trace add to a log.
use Rattle.std.proofs.Common.{◌≡◌, ℕ, ◌≤◌, List, ◌∷◌, reverse, length, take, Some, None, sym, refl, ap, ◌∙◌, subst, inr, ⊎_elim, arith}
use mathlib.Core.List.{reverse-reverse}
use lib.ListN.{length-reverse}
use Rattle.measure.specs.Algebra.{Algebra, Laws}
use Rattle.walks.specs.Networks.{Network}
use Rattle.walks.specs.Walks.{walk_length}
use Rattle.walks.specs.Rows.{Table, In}
use Rattle.walks.specs.Paths.{PathTo, Since, Next as NextPath}
use Rattle.sweeps.specs.declared.Arc.{Arc}
use Rattle.tracing.specs.declared.Step.{Step}
use Rattle.tracing.specs.Standing.{newest, HandedOut}
use Rattle.tracing.proofs.Segments.{segments}
use Rattle.session.specs.declared.stages.Trace.{Trace as Tracer}
use Rattle.session.specs.Nets.{Net, listed}
use Rattle.session.specs.Traces.{TraceHolds, PathHanded, PathsOver, NextMeant}
use Rattle.journal.specs.declared.calls.Call.TheVariants.{Next}
use Rattle.journal.specs.declared.calls.Answer.TheVariants.{Path, NoPath}
use Rattle.journal.specs.declared.stages.Stage.TheVariants.{Tracing}
use Rattle.journal.specs.Logs.{Logged, same, tracing, network, rows, target, handed}
use Rattle.journal.specs.Handing.{FirstLeft, NoneLeft}
use Rattle.journal.specs.Performs.{Tables, tables, Outcome, Taken}
use Rattle.journal.proofs.Entries.{nodes_are}

module _ {V : Type 0} (m : Algebra V) (laws : Laws m) (net : Network V) (s : ℕ) (t u : Table V) (j : ℕ) (row : t j ≡ u j) (ws : List (List ℕ)) (out : HandedOut m net s t j ws) where
  -- a path by one of two tables with the same row is one by the other
  there : (w : List ℕ) → PathTo m net s t j w → PathTo m net s u j w
  there w p = record { leads = p.leads; counted = p.counted; inside = subst (In (walk_length m net w)) row p.inside }

  back : (w : List ℕ) → PathTo m net s u j w → PathTo m net s t j w
  back w p = record { leads = p.leads; counted = p.counted; inside = subst (In (walk_length m net w)) (sym row) p.inside }

  -- the next path after those handed out is the first that is left
  pub first_left : (w : List ℕ) → NextPath m net s t j (newest ws) w → FirstLeft m net s u j ws w
  first_left w n =
      let g = segments laws net s t j ws out in
      record {
        path = there w n.path;
        new = λ i. g.apart w i n.since;
        first = λ v p i. ⊎_elim (λ z. absurd (i z)) (λ z. n.first v (back v p) z) (g.initial v (back v p));
      }

  pub none_left : ((v : List ℕ) → PathTo m net s t j v → ¬ Since m net s t (newest ws) v) → NoneLeft m net s u j ws
  none_left none v p = ⊎_elim (λ i. i) (λ z. absurd (none v (back v p) z)) ((segments laws net s t j ws out).initial v (back v p))

module _ {V : Type 0} (m : Algebra V) (laws : Laws m) (t : Tracer) (arcs : List Arc) (lengths values : List V) (counts : List ℕ) (work : List Step) (path : List ℕ) where
  abbrev before : Tables V
  before = tables arcs lengths values counts work path

  -- the target is a node
  aimed : (net : Net V) (k s : ℕ) (table : Table V) (to : ℕ) (given : List (List ℕ)) → TraceHolds m net k s table to given t arcs lengths values counts work path → (1 ≤ to) × (to ≤ net.nodes)
  aimed net k s table to given h =
      let a = h.aimed in
      let low = h.standing.tracing.low in
      let high = h.standing.tracing.high in
      (omega arith, omega arith)

  -- the row of the target in the tables is that of the log
  target_row : (n : ℕ) (log : List (Logged V)) (o : Outcome m n log (Tracing t) before) → o.holds.table (target log) ≡ (rows log).at (target log)
  target_row n log o =
      let h = o.holds.holds in
      let b = aimed _ _ _ _ _ _ h in
      let high = b.1 in
      let w = h.settled.width in
      let low = t.settled.order.ok.0 in
      let e = nodes_are n log in
      sym (h.settled.held.at (target log) b.0 high) ∙ (o.holds.rows_held (omega arith)).at (target log) b.0 (omega arith)

  handed_out : (n : ℕ) (log : List (Logged V)) (o : Outcome m n log (Tracing t) before) → HandedOut m (listed m (network n log)) (rows log).source o.holds.table (target log) (handed log)
  handed_out n log o = let h = o.holds.holds in subst (λ j. HandedOut m (listed m (network n log)) (rows log).source o.holds.table j (handed log)) h.aimed h.standing.handed_out

  module _ (t' : Tracer) (work' : List Step) (path' : List ℕ) where
    abbrev after : Tables V
    after = tables arcs lengths values counts work' path'

    pub path_taken : (r : ℕ × V)
        → ((net : Net V) (k s : ℕ) (table : Table V) (to : ℕ) (given : List (List ℕ)) → TraceHolds m net k s table to given t arcs lengths values counts work path → NextMeant m net k s table to given (Some r) t' arcs lengths values counts work' path')
        → Taken m (Tracing t) before Next (Path r.0 r.1) (Tracing t') after
    path_taken r meant = record {
      step = λ n log o kept.
          let h = o.holds.holds in
          let g : PathHanded m (network n log) (rows log).width (rows log).source o.holds.table (target log) (handed log) r t' arcs lengths values counts work' path' = meant _ _ _ _ _ _ h in
          let walk = g.walk in
          let e : walk ≡ reverse (take r.0 path') = sym (ap reverse g.written ∙ reverse-reverse walk) in (
            (
              record {
                taken = ap (λ k. same k tracing) o.at;
                answered = record {
                  many = g.arcs_count ∙ sym (ap length g.written ∙ length-reverse walk);
                  long = g.is_length ∙ ap (walk_length m (listed m (network n log))) e;
                  first = subst (FirstLeft m (listed m (network n log)) (rows log).source (rows log).at (target log) (handed log)) e
                      (first_left m laws (listed m (network n log)) (rows log).source o.holds.table (rows log).at (target log) (target_row n log o) (handed log) (handed_out n log o) walk g.next);
                };
              },
              kept,
            ),
            record {
              at = refl;
              holds = record {
                table = o.holds.table;
                holds = subst (λ w. TraceHolds m (network n log) (rows log).width (rows log).source o.holds.table (target log) (w ∷ handed log) t' arcs lengths values counts work' path') e g.holds;
                rows_held = o.holds.rows_held;
              };
            },
            inr (refl, refl, refl),
          );
    }

    pub none_taken : ((net : Net V) (k s : ℕ) (table : Table V) (to : ℕ) (given : List (List ℕ)) → TraceHolds m net k s table to given t arcs lengths values counts work path → NextMeant m net k s table to given None t' arcs lengths values counts work' path')
        → Taken m (Tracing t) before Next NoPath (Tracing t') after
    none_taken meant = record {
      step = λ n log o kept.
          let h = o.holds.holds in
          let g : PathsOver m (network n log) (rows log).width (rows log).source o.holds.table (target log) (handed log) t' arcs lengths values counts work' path' = meant _ _ _ _ _ _ h in (
            (
              record {
                taken = ap (λ k. same k tracing) o.at;
                answered = none_left m laws (listed m (network n log)) (rows log).source o.holds.table (rows log).at (target log) (target_row n log o) (handed log) (handed_out n log o) g.none;
              },
              kept,
            ),
            record { at = refl; holds = record { table = o.holds.table; holds = g.holds; rows_held = o.holds.rows_held } },
            inr (refl, refl, refl),
          );
    }
