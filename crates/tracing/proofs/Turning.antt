-- What the two loops of a next keep.
use Rattle.std.proofs.Common.{◌≡◌, ℕ, Bool, true, false, ◌+◌, ◌-◌, ◌<◌, ◌≤◌, List, [], ◌∷◌, ◌++◌, length, get_or, take, drop, set, sym, ap, ◌∙◌, subst, ap₂, append-nil, arith, length-append, length-set}
use Rattle.std.proofs.lemmas.List.{take_more, take_more_set, length-take-le, take-take, drop_more, take-append-drop, get_or-take, take_all, drop_all, map-append, length-map}
use Rattle.std.specs.Bool.{then_some}
use Rattle.measure.specs.Algebra.{Algebra}
use Rattle.walks.specs.Ways.{Soonest, Later, Last, Lowest, NoneAbove}
use Rattle.walks.proofs.Ways.{stepwise}
use Rattle.sweeps.specs.declared.Arc.{Arc}
use Rattle.sweeps.specs.Tables.{Whether}
use Rattle.tracing.specs.declared.Step.{Step}
use Rattle.tracing.specs.declared.labels.Label.{Label}
use Rattle.tracing.specs.Tables.{Tables}
use Rattle.tracing.specs.Labels.{lab, no_step, Sorted, Back, Home}
use Rattle.tracing.specs.Steps.{arcs_of, end_of, WayFrom, Alive, Chain, Sound, Down, Long, Stands, Turn, Descended}
use Rattle.tracing.proofs.Chains.{end_more, arcs_more, chain_next, chain_way, chain_more, chain_part}

-- the end of the first levels is the label of the last of them
pub end_level : (arcs : List Arc) (x : Label) (work : List Step) (i : ℕ) → i < length work → end_of arcs x (take (i + 1) work) ≡ lab arcs (get_or work i no_step)
end_level arcs x work i lt = ap (end_of arcs x) (take_more work i no_step lt) ∙ end_more arcs x (take i work) (get_or work i no_step)

pub end_at : (arcs : List Arc) (x : Label) (work : List Step) (d : ℕ) → 1 ≤ d → d ≤ length work → end_of arcs x (take d work) ≡ lab arcs (get_or work (d - 1) no_step)
end_at arcs x work d one le = let e : d - 1 + 1 ≡ d = omega arith in ap (λ i. end_of arcs x (take i work)) (sym e) ∙ end_level arcs x work (d - 1) (omega arith)

pub end_last : (arcs : List Arc) (x : Label) (steps : List Step) → 1 ≤ length steps → end_of arcs x steps ≡ lab arcs (get_or steps (length steps - 1) no_step)
end_last arcs x steps some = ap (end_of arcs x) (sym (take_all (length steps) steps (omega arith))) ∙ end_at arcs x steps (length steps) some (omega arith)

parts : (work : List Step) (depth i : ℕ) → i < depth → depth ≤ length work → take depth work ≡ take i work ++ (get_or work i no_step ∷ drop (i + 1) (take depth work))
parts work depth i l h =
    let e = length-take-le depth work h in
    let lt : i < length (take depth work) = omega arith in
    sym (take-append-drop i (take depth work)) ∙ ap₂ ◌++◌ (take-take i depth work (omega arith)) (drop_more (take depth work) i no_step lt ∙ ap (λ t. t ∷ drop (i + 1) (take depth work)) (get_or-take depth work i no_step l))

module _ {V : Type 0} (m : Algebra V) (T : Tables V) where
  abbrev End : Label → List Step → Label
  End = end_of T.arcs

  -- the steps lead back from x to y, and the first way goes on from there
  pub record Reached (x : Label) (steps : List Step) (y : Label) : Type 0 where
    pub chain : Chain m T x steps
    pub is : end_of T.arcs x steps ≡ y
    pub alive : Alive m T y
    pub soonest : (v : List ℕ) → Soonest (WayFrom m T y) v → Soonest (WayFrom m T x) (arcs_of steps ++ v)

  pub record Going (x : Label) (work : List Step) (d : ℕ) (y : Label) : Type 0 where
    pub size : d ≤ length work
    pub meant : Sound m T → Alive m T x → Reached x (take d work) y

  reach_step : Sound m T → (x y : Label) (us : List Step) (t : Step) → Reached x us y → Lowest (Back m T) (Home m T) y 0 t.arc (lab T.arcs t) → Reached x (us ++ (t ∷ [])) (lab T.arcs t)
  reach_step sound x y us t r low = record {
    chain = chain_more m T x us t r.chain (subst (λ z. Back m T z t.arc (lab T.arcs t)) (sym r.is) low.leads);
    is = end_more T.arcs x us t;
    alive = sound.steady.live y (lab T.arcs t) t.arc low.leads;
    soonest = λ v h. subst (Soonest (WayFrom m T x)) (sym (arcs_more us t v)) (r.soonest (t.arc ∷ v) ((stepwise sound.steady).first y (lab T.arcs t) t.arc v low h));
  }

  pub going_more : (x y z : Label) (work : List Step) (d : ℕ) (t : Step) → d < length work → z ≡ lab T.arcs t → Going x work d y → (Sorted T → Lowest (Back m T) (Home m T) y 0 t.arc (lab T.arcs t)) → Going x (set work d t) (d + 1) z
  going_more x y z work d t lt e g low = record {
    size = simp length-set (omega arith);
    meant = λ sound alive. subst (Reached x (take (d + 1) (set work d t))) (sym e) (subst (λ us. Reached x us (lab T.arcs t)) (sym (take_more_set work d t lt)) (reach_step sound x y (take d work) t (g.meant sound alive) (low sound.sorted)));
  }

  pub going_home : (x y : Label) (work : List Step) (d : ℕ) → Going x work d y → Home m T y → Sound m T → Alive m T x → Down m T x (take d work)
  going_home x y work d g h sound alive =
      let r = g.meant sound alive in
      record {
        chain = r.chain;
        home = subst (Home m T) (sym r.is) h;
        soonest = subst (Soonest (WayFrom m T x)) (append-nil (arcs_of (take d work))) (r.soonest [] ((stepwise sound.steady).home_first y h));
      }

  pub going_full : (x y : Label) (work : List Step) (d : ℕ) → Going x work d y → length work ≤ d → Sound m T → Alive m T x → Long m T x (length work)
  going_full x y work d g full sound alive =
      let r = g.meant sound alive in
      let w = r.alive in
      let e = length-map (take d work) (λ (t : Step). t.arc) in
      let f = length-append (arcs_of (take d work)) w.0 in
      let q = length-take-le d work g.size in
      record { way = arcs_of (take d work) ++ w.0; is = chain_way m T x (take d work) w.0 r.chain (subst (λ z. WayFrom m T z w.0) (sym r.is) w.1); long = omega arith }

  pub going_stuck : {A : Type 0} (x y : Label) (work : List Step) (d : ℕ) → Going x work d y → ¬ Home m T y → (Sorted T → NoneAbove (Back m T) (Home m T) y 0) → Sound m T → Alive m T x → A
  going_stuck x y work d g away none sound alive = absurd (go (g.meant sound alive).alive.0 (g.meant sound alive).alive.1)
    where
      go : (w : List ℕ) → WayFrom m T y w → ⊥
      go [] h = away h
      go (a ∷ w) h = none sound.sorted a h.0 (sound.steady.numbered y h.0 a h.1.0) h.1.0

  pub going_ends : (x y : Label) (work : List Step) (d : ℕ) (b : Bool) → Going x work d y → length work ≤ d → Whether b (Home m T y) → Descended m T x work (then_some b (length work))
  going_ends x y work d true g full h = (
    omega arith,
    λ sound alive. let e : d ≡ length work = (let s = g.size in omega arith) in subst (λ i. Down m T x (take i work)) e (going_home x y work d g h sound alive),
  )
  going_ends x y work d false g full h = going_full x y work d g full

  -- what is dropped of the steps is the last way of its label
  pub record Dropping (x : Label) (depth : ℕ) (work : List Step) (d : ℕ) : Type 0 where
    pub size : d ≤ depth
    pub meant : Sound m T → Stands m T x (take depth work) → Last (Back m T) (Home m T) (end_of T.arcs x (take d work)) (arcs_of (drop d (take depth work)))

  pub dropping_none : (x : Label) (depth : ℕ) (work : List Step) → depth ≤ length work → Dropping x depth work depth
  dropping_none x depth work h = record {
    size = omega arith;
    meant = λ sound stands. subst (λ l. Last (Back m T) (Home m T) (End x (take depth work)) (arcs_of l)) (sym (drop_all depth (take depth work) (omega (arith, length-take-le depth work h)))) ((stepwise sound.steady).home_last (End x (take depth work)) stands.home);
  }

  module _ (x : Label) (depth : ℕ) (work : List Step) (size : depth ≤ length work) (i : ℕ) (lt : i < depth) (drops : Dropping x depth work (i + 1)) (sound : Sound m T) (stands : Stands m T x (take depth work)) where
    split : Chain m T x (take i work ++ (get_or work i no_step ∷ drop (i + 1) (take depth work)))
    split = subst (Chain m T x) (parts work depth i lt size) stands.chain

    before : Chain m T x (take i work)
    before = (chain_part m T x (take i work) (get_or work i no_step ∷ drop (i + 1) (take depth work)) split).0

    joint : Back m T (End x (take i work)) (get_or work i no_step).arc (lab T.arcs (get_or work i no_step))
    joint = (chain_part m T x (take i work) (get_or work i no_step ∷ drop (i + 1) (take depth work)) split).1.0

    last : Last (Back m T) (Home m T) (lab T.arcs (get_or work i no_step)) (arcs_of (drop (i + 1) (take depth work)))
    last = subst (λ y. Last (Back m T) (Home m T) y (arcs_of (drop (i + 1) (take depth work)))) (end_level T.arcs x work i (omega arith)) (drops.meant sound stands)

    drop_more_last : NoneAbove (Back m T) (Home m T) (End x (take i work)) (get_or work i no_step).arc → Last (Back m T) (Home m T) (End x (take i work)) (arcs_of (drop i (take depth work)))
    drop_more_last none =
        let e = length-take-le depth work size in
        let l : i < length (take depth work) = omega arith in
        subst (λ us. Last (Back m T) (Home m T) (End x (take i work)) (arcs_of us))
        (sym (drop_more (take depth work) i no_step l ∙ ap (λ t. t ∷ drop (i + 1) (take depth work)) (get_or-take depth work i no_step lt)))
        ((stepwise sound.steady).next_none (End x (take i work)) (lab T.arcs (get_or work i no_step)) (get_or work i no_step).arc (arcs_of (drop (i + 1) (take depth work))) joint last none)

    turn_found : (t : Step) → Lowest (Back m T) (Home m T) (End x (take i work)) (get_or work i no_step).arc t.arc (lab T.arcs t) → Turn m T x (take depth work) (take i work ++ (t ∷ []))
    turn_found t low = record {
      chain = chain_more m T x (take i work) t before low.leads;
      alive = subst (Alive m T) (sym end) (sound.steady.live (End x (take i work)) (lab T.arcs t) t.arc low.leads);
      next = next;
    }
      where
        end : End x (take i work ++ (t ∷ [])) ≡ lab T.arcs t
        end = end_more T.arcs x (take i work) t

        old : arcs_of (take depth work) ≡ arcs_of (take i work) ++ ((get_or work i no_step).arc ∷ arcs_of (drop (i + 1) (take depth work)))
        old = ap arcs_of (parts work depth i lt size) ∙ map-append (λ (t : Step). t.arc) (take i work) (get_or work i no_step ∷ drop (i + 1) (take depth work))

        next : (v : List ℕ) → Soonest (WayFrom m T (End x (take i work ++ (t ∷ [])))) v → Soonest (Later (Back m T) (Home m T) x (arcs_of (take depth work))) (arcs_of (take i work ++ (t ∷ [])) ++ v)
        next v h =
            let h' : Soonest (WayFrom m T (lab T.arcs t)) v = subst (λ y. Soonest (WayFrom m T y) v) end h in
            let P : List ℕ → List ℕ → Type 0 = λ w z. Soonest (Later (Back m T) (Home m T) x w) z in
            subst (λ w. P w (arcs_of (take i work ++ (t ∷ [])) ++ v)) (sym old)
            (subst (P (arcs_of (take i work) ++ ((get_or work i no_step).arc ∷ arcs_of (drop (i + 1) (take depth work))))) (sym (arcs_more (take i work) t v))
            (chain_next m T sound x (take i work) ((get_or work i no_step).arc ∷ arcs_of (drop (i + 1) (take depth work))) (t.arc ∷ v) before
            ((stepwise sound.steady).next_turns (End x (take i work)) (lab T.arcs (get_or work i no_step)) (lab T.arcs t) (get_or work i no_step).arc t.arc (arcs_of (drop (i + 1) (take depth work))) v joint last low h')))

  dropping_more : (x y : Label) (depth : ℕ) (work : List Step) → depth ≤ length work → (i : ℕ) → i < depth → y ≡ end_of T.arcs x (take i work) → Dropping x depth work (i + 1)
      → (Sorted T → NoneAbove (Back m T) (Home m T) y (get_or work i no_step).arc) → Dropping x depth work i
  dropping_more x y depth work size i lt e drops none = record {
    size = omega arith;
    meant = λ sound stands. drop_more_last x depth work size i lt drops sound stands (subst (λ z. NoneAbove (Back m T) (Home m T) z (get_or work i no_step).arc) e (none sound.sorted));
  }

  dropping_turns : (x y : Label) (depth : ℕ) (work : List Step) → depth ≤ length work → (i : ℕ) → i < depth → y ≡ end_of T.arcs x (take i work) → Dropping x depth work (i + 1)
      → (t : Step) → (Sorted T → Lowest (Back m T) (Home m T) y (get_or work i no_step).arc t.arc (lab T.arcs t)) → Sound m T → Stands m T x (take depth work) → Turn m T x (take depth work) (take (i + 1) (set work i t))
  dropping_turns x y depth work size i lt e drops t low sound stands =
      subst (Turn m T x (take depth work)) (sym (take_more_set work i t (omega arith)))
      (turn_found x depth work size i lt drops sound stands t (subst (λ z. Lowest (Back m T) (Home m T) z (get_or work i no_step).arc t.arc (lab T.arcs t)) e (low sound.sorted)))

  pub turn_some : (x y : Label) (depth : ℕ) (work now : List Step) (left : ℕ) (t : Step) → now ≡ work → depth ≤ length now → 0 < left → Dropping x depth now left → y ≡ end_of T.arcs x (take (left - 1) now)
      → (Sorted T → Lowest (Back m T) (Home m T) y (get_or now (left - 1) no_step).arc t.arc (lab T.arcs t)) → Sound m T → Stands m T x (take depth work) → Turn m T x (take depth work) (take (left - 1 + 1) (set now (left - 1) t))
  turn_some x y depth work now left t e size pos drops is low sound stands =
      let f : left - 1 + 1 ≡ left = omega arith in
      let z = drops.size in
      subst (λ w. Turn m T x (take depth w) (take (left - 1 + 1) (set now (left - 1) t))) e
      (dropping_turns x y depth now size (left - 1) (omega arith) is (subst (Dropping x depth now) (sym f) drops) t low sound (subst (λ w. Stands m T x (take depth w)) (sym e) stands))

  pub turn_less : (x y : Label) (depth : ℕ) (now : List Step) (left : ℕ) → depth ≤ length now → 0 < left → Dropping x depth now left → y ≡ end_of T.arcs x (take (left - 1) now)
      → (Sorted T → NoneAbove (Back m T) (Home m T) y (get_or now (left - 1) no_step).arc) → Dropping x depth now (left - 1)
  turn_less x y depth now left size pos drops is none =
      let f : left - 1 + 1 ≡ left = omega arith in
      let z = drops.size in
      dropping_more x y depth now size (left - 1) (omega arith) is (subst (Dropping x depth now) (sym f) drops) none
