-- The parts of a next, put together.
use Rattle.std.proofs.Common.{◌≡◌, ℕ, ◌+◌, ◌-◌, ◌*◌, ◌≤◌, List, [], ◌++◌, length, get_or, take, Some, None, Option, sym, refl, ap, ◌∙◌, subst, arith, length-append}
use lib.Seq.{take-append-add}
use Rattle.std.proofs.lemmas.List.{length-take-le, append-nil, take-append-le, map-append, length-map}
use Rattle.measure.specs.Algebra.{Algebra, Laws}
use Rattle.walks.specs.Rows.{Table}
use Rattle.walks.specs.Paths.{Next}
use Rattle.tracing.specs.declared.Step.{Step}
use Rattle.tracing.specs.declared.Handed.{Handed}
use Rattle.tracing.specs.declared.labels.Label.{Label}
use Rattle.tracing.specs.Tables.{Tables}
use Rattle.tracing.specs.Labels.{label, lab, no_step, Held, Home}
use Rattle.tracing.specs.Steps.{arcs_of, end_of, WayFrom, Alive, Down, Stands, Turn, Descended, Turned}
use Rattle.tracing.specs.Nexts.{net_of, InWork, Tracing, Opened, Found, Advanced}
use Rattle.tracing.proofs.Chains.{end_join, chain_way, chain_join}
use Rattle.tracing.proofs.Turning.{end_at}
use Rattle.tracing.proofs.Meaning.{sound_is, alive, few_arcs}
use Rattle.tracing.proofs.Firsts.{opens, empty, goes_on, moves_on, closes}

module _ {V : Type 0} {m : Algebra V} (laws : Laws m) (T : Tables V) where
  pub open_some : (x : Label) (work work' : List Step) (d : ℕ) → Held T x.node x.place → Descended m T x work' (Some d) → Opened m T x work work' (Some (record { place = x.place; depth = d }))
  open_some x work work' d held h = (refl, h.0, held, λ t set. h.1 (sound_is laws T t set) (alive laws T t set x.node x.place held))

  pub open_none : (x : Label) (work work' : List Step) → Held T x.node x.place → Descended m T x work' None → length work' ≡ length work → Opened m T x work work' None
  open_none x work work' held h e = λ t set room.
      let long = h (sound_is laws T t set) (alive laws T t set x.node x.place held) in
      let few = few_arcs laws T t set x long.way long.is in
      absurd (omega (arith, long.long))

  -- the steps of a way are a way
  pub whole : (x : Label) (us : List Step) → Stands m T x us → WayFrom m T x (arcs_of us)
  whole x us h = subst (WayFrom m T x) (append-nil (arcs_of us)) (chain_way m T x us [] h.chain h.home)

  in_work : (x : Label) (h : Handed) (work : List Step) → h.place ≡ x.place → h.depth ≤ length work → Held T x.node x.place → Down m T x (take h.depth work) → InWork m T x.node h work
  in_work x h work e size held down =
      subst (λ p. (h.depth ≤ length work) × Held T x.node p × Stands m T (label x.node p) (take h.depth work)) (sym e) (size, held, record { chain = down.chain; home = down.home })

  module _ (j : ℕ) (work work' : List Step) where
    -- no path was handed out yet
    pub fresh : (r : Option Handed) → Opened m T (label j 0) work work' r → Advanced m T j None work work' r
    fresh (Some h) o = (
      o.1,
      λ t tr.
          let down = o.3 t tr.settled in
          record { next = opens laws T t tr.settled j tr.low tr.high (arcs_of (take h.depth work')) o.2 down.soonest; begun = in_work (label j 0) h work' o.0 o.1 o.2 down },
    )
    fresh None o = λ t tr. let r = o t tr.settled tr.room in record { none = empty laws T t tr.settled j tr.low tr.high r.0; same = r.1 }

  module _ (j : ℕ) (l : Handed) (work mid : List Step) where
    abbrev x : Label
    x = label j l.place

    -- the last path of its length was handed out
    pub passed : (work' : List Step) → Turned m T (label j l.place) l.depth work mid None → (r : Option Handed) → Opened m T (label j (l.place + 1)) mid work' r → Advanced m T j (Some l) work work' r
    passed work' turned (Some h) o = (
      o.1,
      λ t tr.
          let down = o.3 t tr.settled in
          record {
            next = moves_on laws T t tr.settled j tr.low tr.high l.place (arcs_of (take l.depth work)) (whole x (take l.depth work) tr.at.2) (turned.1 (sound_is laws T t tr.settled) tr.at.2) (arcs_of (take h.depth work')) o.2 down.soonest;
            begun = in_work (label j (l.place + 1)) h work' o.0 o.1 o.2 down;
          },
    )
    passed work' turned None o = λ t tr.
        let r = o t tr.settled (subst (λ w. T.nodes * T.k ≤ length w) (sym turned.0) tr.room) in
        record {
          none = closes laws T t tr.settled j tr.low tr.high l.place (arcs_of (take l.depth work)) (whole x (take l.depth work) tr.at.2) (turned.1 (sound_is laws T t tr.settled) tr.at.2) r.0;
          same = r.1 ∙ turned.0;
        }

    module _ (part rest : List Step) (kept : ℕ) (at : Label) (within : l.depth ≤ length work) (size : length mid ≡ length work)
        (turned : Turned m T (label j l.place) l.depth work mid (Some kept)) (is : at ≡ lab T.arcs (get_or mid (kept - 1) no_step)) where
      ends : end_of T.arcs x (take kept mid) ≡ at
      ends = end_at T.arcs x mid kept turned.0 (omega (arith, turned.1)) ∙ sym is

      turn_at : (t : Table V) → Tracing m T t j (Some l) work → Turn m T x (take l.depth work) (take kept mid)
      turn_at t tr = turned.2 (sound_is laws T t tr.settled) tr.at.2

      alive_at : (t : Table V) → Tracing m T t j (Some l) work → Alive m T at
      alive_at t tr = subst (Alive m T) ends (turn_at t tr).alive

      pub turned_some : (more : ℕ) → Descended m T at part (Some more) → Advanced m T j (Some l) work (take kept mid ++ (part ++ rest)) (Some (record { place = l.place; depth = kept + more }))
      turned_some more down = (fits, found)
        where
          long : length (take kept mid) ≡ kept
          long = length-take-le kept mid (omega (arith, turned.1))

          steps : take (kept + more) (take kept mid ++ (part ++ rest)) ≡ take kept mid ++ take more part
          steps =
              ap (λ i. take (i + more) (take kept mid ++ (part ++ rest))) (sym long) ∙ take-append-add (take kept mid) (part ++ rest) more ∙ ap (λ l. take kept mid ++ l) (take-append-le more part rest down.0)

          fits : kept + more ≤ length (take kept mid ++ (part ++ rest))
          fits = omega (arith, long, length-append (take kept mid) (part ++ rest), length-append part rest, down.0)

          found : (t : Table V) → Tracing m T t j (Some l) work
              → Found m T t j (Some (arcs_of (take l.depth work))) (record { place = l.place; depth = kept + more }) (take kept mid ++ (part ++ rest))
          found t tr =
              let turn = turn_at t tr in
              let d : Down m T (end_of T.arcs x (take kept mid)) (take more part) = subst (λ y. Down m T y (take more part)) (sym ends) (down.1 (sound_is laws T t tr.settled) (alive_at t tr)) in
              let arcs_are = ap arcs_of steps ∙ map-append (λ (t : Step). t.arc) (take kept mid) (take more part) in
              record {
                next = subst (Next m (net_of m T) T.source t j (Some (arcs_of (take l.depth work)))) (sym arcs_are)
                    (goes_on laws T t tr.settled j tr.low tr.high l.place (arcs_of (take l.depth work)) (whole x (take l.depth work) tr.at.2) (arcs_of (take kept mid) ++ arcs_of (take more part)) (turn.next (arcs_of (take more part)) d.soonest));
                begun = (
                  fits,
                  tr.at.1,
                  subst (Stands m T x) (sym steps) (record {
                    chain = chain_join m T x (take kept mid) (take more part) turn.chain d.chain;
                    home = subst (Home m T) (sym (end_join T.arcs x (take kept mid) (take more part))) d.home;
                  }),
                );
              }

      pub turned_none : (work' : List Step) → length part ≡ length mid - kept → Descended m T at part None → Advanced m T j (Some l) work work' None
      turned_none work' f down = λ t tr.
          let long = down (sound_is laws T t tr.settled) (alive_at t tr) in
          let way = chain_way m T x (take kept mid) long.way (turn_at t tr).chain (subst (λ y. WayFrom m T y long.way) (sym ends) long.is) in
          let few = few_arcs laws T t tr.settled x (arcs_of (take kept mid) ++ long.way) way in
          let a = length-append (arcs_of (take kept mid)) long.way in
          let b = length-map (take kept mid) (λ (t : Step). t.arc) in
          let c = length-take-le kept mid (omega (arith, turned.1)) in
          absurd (omega (arith, long.long, tr.room, turned.1))
