-- The order of paths, and how paths run through rows.
use Rattle.std.proofs.Common.{◌≡◌, ℕ, zero, suc, ◌+◌, ◌*◌, ◌^◌, ◌<◌, ◌≤◌, ◌⊎◌, List, [], ◌∷◌, ◌++◌, length, sym, refl, ◌∙◌, subst, ap₂, inl, inr, arith}
use native.Mathlib.Decide.{dec_lt}
use Rattle.measure.specs.Algebra.{Algebra, Laws, Before}
use Rattle.walks.specs.Networks.{Network}
use Rattle.walks.specs.Walks.{Walk, walk_length, weight}
use Rattle.walks.specs.Circuits.{NullCircuit}
use Rattle.walks.specs.Rows.{Table, In}
use Rattle.walks.specs.Method.{rows}
use Rattle.walks.specs.Runs.{Settles}
use Rattle.walks.specs.Paths.{Sooner, Ahead, PathTo, PathsRunThroughRows, PathsOrdered, PathsInRows}
use Rattle.walks.specs.Theorems.{Within}
use Rattle.walks.proofs.Orders.{Three, before, same, after, three, never}
use Rattle.walks.proofs.Lengths.{weight_append, magnitude_walk, walk_length_append}
use Rattle.walks.proofs.Coverage.{rows_ascending, rows_short}
use Rattle.walks.proofs.Traces.{part_in, few_arcs}
use Rattle.walks.proofs.Ends.{settled_is}
use Rattle.walks.proofs.Solving.{run, sound, none_reached, complete, small}

pub sooner_not : (w : List ℕ) → Sooner w w → ⊥
sooner_not [] h = h
sooner_not (a ∷ w) (inl l) = omega arith
sooner_not (a ∷ w) (inr h) = sooner_not w h.1

pub sooner_trans : (u v w : List ℕ) → Sooner u v → Sooner v w → Sooner u w
sooner_trans u [] w h k = absurd h
sooner_trans u (b ∷ v) [] h k = k
sooner_trans [] (b ∷ v) (c ∷ w) h k = tt
sooner_trans (a ∷ u) (b ∷ v) (c ∷ w) (inl h) (inl k) = inl (omega arith)
sooner_trans (a ∷ u) (b ∷ v) (c ∷ w) (inl h) (inr k) = inl (omega (arith, k.0))
sooner_trans (a ∷ u) (b ∷ v) (c ∷ w) (inr h) (inl k) = inl (omega (arith, h.0))
sooner_trans (a ∷ u) (b ∷ v) (c ∷ w) (inr h) (inr k) = inr (h.0 ∙ k.0, sooner_trans u v w h.1 k.1)

sooner_either : (u v : List ℕ) → Sooner u v ⊎ ((u ≡ v) ⊎ Sooner v u)
sooner_either [] [] = inr (inl refl)
sooner_either [] (b ∷ v) = inl tt
sooner_either (a ∷ u) [] = inr (inr tt)
sooner_either (a ∷ u) (b ∷ v) = go (dec_lt a b) (dec_lt b a) (sooner_either u v)
  where
    go : Dec (a < b) → Dec (b < a) → Sooner u v ⊎ ((u ≡ v) ⊎ Sooner v u) → Sooner (a ∷ u) (b ∷ v) ⊎ ((a ∷ u ≡ b ∷ v) ⊎ Sooner (b ∷ v) (a ∷ u))
    go (yes l) q r = inl (inl l)
    go (no p) (yes l) r = inr (inr (inl l))
    go (no p) (no q) (inl h) = inl (inr (omega arith, h))
    go (no p) (no q) (inr (inl e)) = inr (inl (ap₂ ◌∷◌ (omega arith) e))
    go (no p) (no q) (inr (inr h)) = inr (inr (inr (omega arith, h)))

module _ {V : Type 0} {m : Algebra V} (laws : Laws m) (net : Network V) where
  pub ahead_not : (u : List ℕ) → Ahead m net u u → ⊥
  ahead_not u (inl l) = never laws (walk_length m net u) l
  ahead_not u (inr h) = sooner_not u h.1

  pub ahead_trans : (u v w : List ℕ) → Ahead m net u v → Ahead m net v w → Ahead m net u w
  ahead_trans u v w (inl a) (inl b) = inl (laws.transitive (walk_length m net u) (walk_length m net v) (walk_length m net w) a b)
  ahead_trans u v w (inl a) (inr b) = inl (subst (Before m (walk_length m net u)) b.0 a)
  ahead_trans u v w (inr a) (inl b) = inl (subst (λ x. Before m x (walk_length m net w)) (sym a.0) b)
  ahead_trans u v w (inr a) (inr b) = inr (a.0 ∙ b.0, sooner_trans u v w a.1 b.1)

  ahead_either : (u v : List ℕ) → Ahead m net u v ⊎ ((u ≡ v) ⊎ Ahead m net v u)
  ahead_either u v = go (three laws (walk_length m net u) (walk_length m net v)) (sooner_either u v)
    where
      go : Three m (walk_length m net u) (walk_length m net v) → Sooner u v ⊎ ((u ≡ v) ⊎ Sooner v u) → Ahead m net u v ⊎ ((u ≡ v) ⊎ Ahead m net v u)
      go (before l) w = inl (inl l)
      go (after l) w = inr (inr (inl l))
      go (same e) (inl h) = inl (inr (e, h))
      go (same e) (inr (inl h)) = inr (inl h)
      go (same e) (inr (inr h)) = inr (inr (inr (sym e, h)))

pub paths_ordered : {V : Type 0} {m : Algebra V} → Laws m → PathsOrdered m
paths_ordered laws net = record { never_itself = ahead_not laws net; transitive = ahead_trans laws net; either = ahead_either laws net }

module _ {V : Type 0} {m : Algebra V} {net : Network V} {k s : ℕ} (laws : Laws m) (g : Within m net (suc k) s) (q : ℕ) (h : Settles m net (suc k) s (rows m net (suc k) s) (suc (suc q))) where
  abbrev T : Table V
  T = rows m net (suc k) s (suc (suc q))

  -- a path without its last arc is a path
  pub part_path : (j a : ℕ) (w : List ℕ) → PathTo m net s T j (a ∷ w) → PathTo m net s T (net.start a) w
  part_path j a w p = record {
    leads = p.leads.2;
    counted = omega (arith, p.counted);
    inside = part_in laws net g.formed s (suc k) (suc (suc q) * net.nodes) g.s_low g.s_high T
        (rows_ascending laws net g.formed (suc k) s (rows m net (suc k) s) (run laws g) (suc (suc q)))
        (rows_short laws net g.formed (suc k) s (rows m net (suc k) s) (run laws g) (suc (suc q)))
        (small laws g (suc (suc q)) (omega (arith, h.in_time))) (sound laws g (suc (suc q))) (complete laws g q h.in_time h.unchanged)
        a w p.leads.0 p.leads.2 p.counted (subst (λ i. In (walk_length m net (a ∷ w)) (T i)) (sym p.leads.1) p.inside);
  }

  beginning : (j : ℕ) (u w : List ℕ) → PathTo m net s T j (u ++ w) → (i : ℕ) × (Walk net i j u × PathTo m net s T i w)
  beginning j [] w p = (j, (refl, p))
  beginning j (a ∷ u) w p = let r = beginning (net.start a) u w (part_path j a (u ++ w) p) in (r.0, ((p.leads.0, p.leads.1, r.1.0), r.1.1))

  pub few : ¬ NullCircuit m net s → (j : ℕ) (w : List ℕ) → PathTo m net s T j w → length w < net.nodes * suc k
  few none j w p =
      few_arcs laws net g.formed s (suc k) (suc (suc q) * net.nodes) g.s_low g.s_high T
      (rows_ascending laws net g.formed (suc k) s (rows m net (suc k) s) (run laws g) (suc (suc q)))
      (rows_short laws net g.formed (suc k) s (rows m net (suc k) s) (run laws g) (suc (suc q)))
      (small laws g (suc (suc q)) (omega (arith, h.in_time))) (sound laws g (suc (suc q))) (complete laws g q h.in_time h.unchanged)
      (none_reached laws g q h.in_time h.unchanged) none j w p.leads p.counted p.inside

  -- the end of a walk that follows another
  between : (i j : ℕ) (u w : List ℕ) → Walk net i j u → Walk net s j (u ++ w) → Walk net s i w
  between i j [] w on leads = subst (λ v. Walk net s v w) (sym on) leads
  between i j (a ∷ u) w on leads = between i (net.start a) u w on.2 leads.2

  apart : ¬ NullCircuit m net s → (j a : ℕ) (u w : List ℕ) → PathTo m net s T j u → PathTo m net s T j (u ++ (a ∷ w)) → ¬ (walk_length m net u ≡ walk_length m net (u ++ (a ∷ w)))
  apart none j a u w p r e =
      let round = between s j u (a ∷ w) p.leads r.leads in
      let wt = weight_append laws net u (a ∷ w) in
      let c = r.counted in
      none (record { at = s; way = []; leads = refl; way_counted = omega arith; last = a; rest = w; round = round; counted = omega arith; admitted = go (three laws (walk_length m net (a ∷ w)) m.null) (omega arith) })
    where
      L : List ℕ → V
      L = walk_length m net

      total : L (u ++ (a ∷ w)) ≡ m.plus (L (a ∷ w)) (L u)
      total = walk_length_append laws net u (a ∷ w) r.counted

      flat : m.plus m.null (L u) ≡ m.plus (L (a ∷ w)) (L u)
      flat = laws.null_left (L u) ∙ e ∙ total

      go : Three m (L (a ∷ w)) m.null → weight m net u + weight m net (a ∷ w) ≤ 2 ^ 62 → L (a ∷ w) ≡ m.null
      go (same q) room = q
      go (before l) room =
          let x = magnitude_walk laws net u (omega arith) in
          let y = magnitude_walk laws net (a ∷ w) (omega arith) in
          let z = laws.null_magnitude in
          never laws (m.plus (L (a ∷ w)) (L u)) (subst (Before m (m.plus (L (a ∷ w)) (L u))) flat (laws.right_monotone (L (a ∷ w)) m.null (L u) l (omega arith) (omega arith)))
      go (after l) room =
          let x = magnitude_walk laws net u (omega arith) in
          let y = magnitude_walk laws net (a ∷ w) (omega arith) in
          let z = laws.null_magnitude in
          never laws (m.plus (L (a ∷ w)) (L u)) (subst (λ v. Before m v (m.plus (L (a ∷ w)) (L u))) flat (laws.right_monotone m.null (L (a ∷ w)) (L u) l (omega arith) (omega arith)))

  paths_through : PathsRunThroughRows m net s T (suc k)
  paths_through = record { beginning = beginning; few_arcs = few; apart = apart }

module _ {V : Type 0} {m : Algebra V} {net : Network V} {k s : ℕ} (laws : Laws m) (g : Within m net (suc k) s) where
  through_at : (p : ℕ) → Settles m net (suc k) s (rows m net (suc k) s) p → PathsRunThroughRows m net s (rows m net (suc k) s p) (suc k)
  through_at zero h = absurd (omega (arith, h.second))
  through_at (suc zero) h = absurd (omega (arith, h.second))
  through_at (suc (suc q)) h = paths_through laws g q h

pub paths_in_rows : {V : Type 0} {m : Algebra V} → Laws m → PathsInRows m
paths_in_rows laws net zero s g p e = absurd (omega (arith, g.k_low))
paths_in_rows laws net (suc k) s g p e = through_at laws g p (settled_is laws net (suc k) s p e)
