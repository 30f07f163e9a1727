-- A trace and its tables hold what it has handed out.
use Rattle.std.proofs.Common.{◌≡◌, ℕ, ◌*◌, ◌≤◌, false, List, [], length, Some, None, Ok, Err, Option, Result, sym, refl, ap, ◌∙◌, subst, arith}
use Rattle.std.proofs.lemmas.Bool.Decides.{nat_tests}
use Rattle.measure.specs.Algebra.{Algebra}
use Rattle.walks.specs.Circuits.{NullCircuit as NullReached}
use Rattle.walks.specs.Rows.{Table}
use Rattle.sweeps.specs.declared.Arc.{Arc}
use Rattle.sweeps.specs.declared.refusal.Refusal.{Refusal}
use Rattle.sweeps.specs.Tables.{Whether}
use Rattle.tracing.specs.declared.Step.{Step}
use Rattle.tracing.specs.declared.Cursor.{Cursor}
use Rattle.tracing.specs.Tables.{Tables, tables}
use Rattle.tracing.specs.Standing.{new_cursor, Standing, Framed, Meant, Nexted}
use Rattle.session.specs.declared.stages.Settled.{Settled}
use Rattle.session.specs.declared.stages.Trace.{Trace}
use Rattle.session.specs.Nets.{Net, listed}
use Rattle.session.specs.Settled.{SettledHolds}
use Rattle.session.specs.Traces.{trace_verdict, TraceDone, TraceMeant, TraceHolds, PathOnly, NextDone, NextMeant}

module _ {V : Type 0} (m : Algebra V) (trace : Trace) (work : List Step) (path : List ℕ) (c' : Cursor) (work' : List Step) (path' : List ℕ) where
  -- the trace after a next
  abbrev pub moved : Trace
  moved = record { settled = trace.settled; cursor = c' }

  path_only : (T : Tables V) (r : Option (ℕ × V)) → Framed m T trace.cursor path c' path' r → PathOnly m path path' r
  path_only T (Some r) h = h
  path_only T None h = h.0

  pub next_done : (T : Tables V) (r : Option (ℕ × V)) → Nexted m T trace.cursor work path c' work' path' r → NextDone m trace work path r moved work' path'
  next_done T r h = record { settled = refl; work_size = h.work_size; path_size = h.path_size; frame = path_only T r h.frame }

  module _ (net : Net V) (k s : ℕ) (t : Table V) (target : ℕ) (handed : List (List ℕ)) (arcs : List Arc) (lengths values : List V) (counts : List ℕ)
      (holds : TraceHolds m net k s t target handed trace arcs lengths values counts work path) where
    own : Tables V
    own = tables net.nodes k s net.arcs net.lengths values counts

    means : (r : Option (ℕ × V)) → c'.target ≡ trace.cursor.target → length path' ≡ length path → Meant m (tables net.nodes k s net.arcs net.lengths values counts) t handed target c' work' path' r
        → NextMeant m net k s t target handed r moved arcs lengths values counts work' path'
    means (Some r) aim size h =
        record {
          walk = h.walk;
          next = h.next;
          arcs_count = h.arcs_count;
          is_length = h.is_length;
          written = h.written;
          holds = record { settled = holds.settled; aimed = aim ∙ holds.aimed; standing = h.stands; path_room = (let p = holds.path_room in omega arith) };
        }
    means None aim size h = record {
      none = h.none;
      holds = record { settled = holds.settled; aimed = aim ∙ holds.aimed; standing = h.stands; path_room = (let p = holds.path_room in omega arith) };
    }

    pub next_meant : (arcs₀ : List Arc) (lengths₀ : List V) (r : Option (ℕ × V)) → (arcs₀ ≡ net.arcs) × (lengths₀ ≡ net.lengths)
        → Nexted m (tables trace.settled.draft.nodes trace.settled.order.k trace.settled.order.source arcs₀ lengths₀ values counts) trace.cursor work path c' work' path' r → NextMeant m net k s t target handed r moved arcs lengths values counts work' path'
    next_meant arcs₀ lengths₀ r parts h =
        let same : tables trace.settled.draft.nodes trace.settled.order.k trace.settled.order.source arcs₀ lengths₀ values counts ≡ tables net.nodes k s net.arcs net.lengths values counts =
        (λ j. tables (holds.settled.draft.nodes j) (holds.settled.width j) (holds.settled.from j) (parts.0 j) (parts.1 j) values counts) in
        let n : Nexted m (tables net.nodes k s net.arcs net.lengths values counts) trace.cursor work path c' work' path' r = subst (λ T. Nexted m T trace.cursor work path c' work' path' r) same h in
        means r n.target n.path_size
        (subst (λ j. Meant m (tables net.nodes k s net.arcs net.lengths values counts) t handed j c' work' path' r) holds.aimed (n.meant t handed holds.standing holds.path_room))

module _ {V : Type 0} (m : Algebra V) (net : Net V) (k s : ℕ) (t : Table V) (target : ℕ) (session : Settled) (arcs : List Arc) (lengths values : List V) (counts : List ℕ) (work : List Step) (path : List ℕ)
    (holds : SettledHolds m net k s t session arcs lengths values counts) where
  -- what an opened trace knows
  record Opens : Type 0 where
    low : 1 ≤ target
    high : target ≤ session.draft.nodes
    plain : session.null ≡ false
    work_room : session.draft.nodes * session.order.k ≤ length work
    path_room : session.draft.nodes * session.order.k ≤ length path

  opens : trace_verdict session.draft.nodes session.order.k session.null target (length work) (length path) ≡ None → Opens
  opens e = record {
    low = grind (arith, nat_tests);
    high = grind (arith, nat_tests);
    plain = grind (arith, nat_tests);
    work_room = grind (arith, nat_tests);
    path_room = grind (arith, nat_tests);
  }

  opened : (trace : Trace) → trace.settled ≡ session → trace.cursor ≡ new_cursor target → Opens → TraceHolds m net k s t target [] trace arcs lengths values counts work path
  opened trace a b o =
      let d = holds.draft in
      let w = holds.width in
      let f = holds.from in
      let n = d.nodes in
      let high = session.draft.ok.1 in
      let k_low = session.order.ok.0 in
      let k_high = session.order.ok.1 in
      let s_low = session.order.ok.2 in
      let fits = session.fits in
      let oh = o.high in
      let sized : session.draft.nodes * session.order.k ≡ net.nodes * k = (λ j. n j * w j) in
      let work_room = o.work_room in
      let path_room = o.path_room in
      let beside = d.beside in
      record {
        settled = subst (λ x. SettledHolds m net k s t x arcs lengths values counts) (sym a) holds;
        aimed = ap (λ (x : Cursor). x.target) b;
        standing = subst (λ x. Standing m (tables net.nodes k s net.arcs net.lengths values counts) t [] x work) (sym b) (record {
          tracing = record {
            settled = record {
              nodes_high = omega arith;
              k_low = omega arith;
              k_high = omega arith;
              source_low = omega arith;
              source_high = omega arith;
              beside = omega arith;
              ordered = d.ordered;
              held = holds.held;
              exact = λ j jl jh. holds.exact j;
              no_negative = holds.sound;
              no_null = subst (λ b'. Whether b' (NullReached m (listed m net) s)) o.plain holds.null_told;
            };
            low = o.low;
            high = omega arith;
            room = omega arith;
            at = tt;
          };
          handed_out = tt;
          last = refl;
        });
        path_room = omega arith;
      }

  by_verdict : (v : Option Refusal) (r : Result Trace (Settled × Refusal)) → trace_verdict session.draft.nodes session.order.k session.null target (length work) (length path) ≡ v → TraceDone v session target r
      → TraceMeant m net k s t target r arcs lengths values counts work path
  by_verdict (Some why) (Ok trace) e h = absurd (let z : ◌≡◌ {A = ℕ} 0 1 = cc in omega arith)
  by_verdict (Some why) (Err p) e h = let q : p.0 ≡ session = (let x : p ≡ (session, why) = cc in ap (λ (y : Settled × Refusal). y.0) x) in subst (λ x. SettledHolds m net k s t x arcs lengths values counts) (sym q) holds
  by_verdict None (Ok trace) e h = opened trace h.0 h.1 (opens e)
  by_verdict None (Err p) e h = absurd h

  -- a trace that is opened holds, and so does the session that a refused one gives back
  pub trace_holds : (r : Result Trace (Settled × Refusal)) → TraceDone (trace_verdict session.draft.nodes session.order.k session.null target (length work) (length path)) session target r → TraceMeant m net k s t target r arcs lengths values counts work path
  trace_holds r h = by_verdict (trace_verdict session.draft.nodes session.order.k session.null target (length work) (length path)) r refl h
