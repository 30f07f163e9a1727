-- The next path, told by the ways back from the labels of the target.
use Rattle.std.proofs.Common.{◌≡◌, ℕ, zero, suc, ◌+◌, ◌<◌, ◌≤◌, List, [], ◌∷◌, length, get_or, Some, None, sym, subst, arith}
use native.Mathlib.Decide.{dec_lt}
use Rattle.measure.specs.Algebra.{Algebra, Laws, Before}
use Rattle.walks.specs.Walks.{walk_length}
use Rattle.walks.specs.Rows.{Table, In, BeforeAll, Ascending}
use Rattle.walks.specs.Paths.{PathTo, Since, Next}
use Rattle.walks.specs.Ways.{Soonest, Later, Last}
use Rattle.walks.specs.Labels.{WayOf}
use Rattle.walks.specs.Labels as walks
use Rattle.walks.proofs.Orders.{never, before_not}
use Rattle.walks.proofs.Solving.{exactness}
use Rattle.tracing.specs.Tables.{Tables}
use Rattle.tracing.specs.Labels.{label, Held, val, Back, Home}
use Rattle.tracing.specs.Steps.{WayFrom}
use Rattle.tracing.specs.Nexts.{net_of, Settled}
use Rattle.tracing.proofs.Meaning.{within, settles, R, same_rows, found, val_at, val_in, Placed, in_val, to_way, from_way, way_held, path_of}

module _ {V : Type 0} {m : Algebra V} (laws : Laws m) where
  above_at : (y : V) (row : List V) (j : ℕ) (d : V) → BeforeAll m y row → j < length row → Before m y (get_or row j d)
  above_at y [] j d up l = absurd (omega arith)
  above_at y (x ∷ xs) zero d up l = up.0
  above_at y (x ∷ xs) (suc j) d up l = above_at y xs j d up.1 (omega arith)

  rises : (row : List V) (i j : ℕ) (d : V) → Ascending m row → i < j → j < length row → Before m (get_or row i d) (get_or row j d)
  rises [] i j d up l h = absurd (omega arith)
  rises (x ∷ xs) i zero d up l h = absurd (omega arith)
  rises (x ∷ xs) zero (suc j) d up l h = above_at x xs j d up.0 (omega arith)
  rises (x ∷ xs) (suc i) (suc j) d up l h = rises xs i j d up.1 (omega arith) (omega arith)

module _ {V : Type 0} {m : Algebra V} (laws : Laws m) (T : Tables V) (t : Table V) (set : Settled m T t) (j : ℕ) (low : 1 ≤ j) (high : j ≤ T.nodes) where
  abbrev S : Table V
  S = R laws T t set

  abbrev Wb : ℕ × V → ℕ → ℕ × V → Type 0
  Wb = walks.Back m (net_of m T) T.source S

  abbrev WH : ℕ × V → Type 0
  WH = walks.Home m (net_of m T) T.source S

  climbs : (p q : ℕ) → Held T j p → Held T j q → p < q → Before m (val m T j p) (val m T j q)
  climbs p q hp hq l =
      let up = (exactness laws (net_of m T) T.k T.source (within laws T t set) (settles laws T t set).0 (settles laws T t set).1 j).ascending in
      let a = val_at laws T t set j p hp in
      let b = val_at laws T t set j q hq in
      subst (λ x. Before m x (val m T j q)) a.1 (subst (Before m (get_or (S j) p m.null)) b.1 (rises laws (S j) p q m.null up l b.0))

  -- a length before another stands at a lower place
  lower : (p q : ℕ) → Held T j p → Held T j q → Before m (val m T j p) (val m T j q) → p < q
  lower p q hp hq b = go (dec_lt p q) (dec_lt q p)
    where
      go : Dec (p < q) → Dec (q < p) → p < q
      go (yes l) d = l
      go (no l) (yes h) = before_not laws (val m T j p) (val m T j q) b (climbs q p hq hp h)
      go (no l) (no h) = let e : q ≡ p = omega arith in never laws (val m T j p) (subst (λ z. Before m (val m T j p) (val m T j z)) e b)

  place_of : (z : V) → In z (S j) → Placed laws T t set j z
  place_of z i = in_val laws T t set j z low high i

  lower_held : (p q : ℕ) → p ≤ q → Held T j q → Held T j p
  lower_held p q l h = record { low = h.low; high = h.high; in_row = omega (arith, h.in_row); in_count = omega (arith, h.in_count) }

  -- what is the first of the ways by places is so by lengths
  soonest_to : (p : ℕ) (v : List ℕ) → Held T j p → Soonest (WayFrom m T (label j p)) v → Soonest (WayOf m (net_of m T) T.source S (j, val m T j p)) v
  soonest_to p v h r = record { holds = to_way laws T t set (label j p) v r.holds; first = λ u q. r.first u (from_way laws T t set (label j p) u h q) }

  later_to : (p : ℕ) (w v : List ℕ) → Held T j p → Soonest (Later (Back m T) (Home m T) (label j p) w) v → Soonest (Later Wb WH (j, val m T j p) w) v
  later_to p w v h r = record { holds = (to_way laws T t set (label j p) v r.holds.0, r.holds.1); first = λ u q. r.first u (from_way laws T t set (label j p) u h q.0, q.1) }

  last_to : (p : ℕ) (w : List ℕ) → Held T j p → Last (Back m T) (Home m T) (label j p) w → Last Wb WH (j, val m T j p) w
  last_to p w h r = λ u q. r u (from_way laws T t set (label j p) u h q)

  -- paths by the rows of the solve are paths by the rows of the tables
  path_as : (v : List ℕ) → PathTo m (net_of m T) T.source S j v → PathTo m (net_of m T) T.source t j v
  path_as v p = record { leads = p.leads; counted = p.counted; inside = subst (In (walk_length m (net_of m T) v)) (sym (same_rows laws T t set j low high)) p.inside }

  as_path : (v : List ℕ) → PathTo m (net_of m T) T.source t j v → PathTo m (net_of m T) T.source S j v
  as_path v p = record { leads = p.leads; counted = p.counted; inside = subst (In (walk_length m (net_of m T) v)) (same_rows laws T t set j low high) p.inside }

  next_none : (v : List ℕ) → Next m (net_of m T) T.source S j None v → Next m (net_of m T) T.source t j None v
  next_none v n = record { path = path_as v n.path; since = tt; first = λ u p s. n.first u (as_path u p) tt }

  next_some : (w v : List ℕ) → Next m (net_of m T) T.source S j (Some w) v → Next m (net_of m T) T.source t j (Some w) v
  next_some w v n = record { path = path_as v n.path; since = n.since; first = λ u p s. n.first u (as_path u p) s }

  -- the first way of the first length is the first path
  pub opens : (v : List ℕ) → Held T j 0 → Soonest (WayFrom m T (label j 0)) v → Next m (net_of m T) T.source t j None v
  opens v h r = next_none v ((found laws T t set).first j (val m T j 0) v (val_in laws T t set j 0 h) least (soonest_to 0 v h r))
    where
      least : (x : V) → In x (S j) → ¬ Before m x (val m T j 0)
      least x i b =
          let q = place_of x i in
          let l = lower q.place 0 q.held h (subst (λ y. Before m y (val m T j 0)) (sym q.is) b) in
          omega arith

  -- without a first length there is none
  pub empty : ¬ Held T j 0 → (u : List ℕ) → PathTo m (net_of m T) T.source t j u → ¬ Since m (net_of m T) T.source t None u
  empty out u r s = let q = place_of (walk_length m (net_of m T) u) (as_path u r).inside in out (lower_held 0 q.place (omega arith) q.held)

  module _ (p : ℕ) (w : List ℕ) (way : WayFrom m T (label j p) w) where
    held : Held T j p
    held = way_held laws T t set (label j p) w way

    path : PathTo m (net_of m T) T.source S j w
    path = (path_of laws T t set j p w way).0

    is : walk_length m (net_of m T) w ≡ val m T j p
    is = (path_of laws T t set j p w way).1

    -- the next way of the same length is the next path
    pub goes_on : (v : List ℕ) → Soonest (Later (Back m T) (Home m T) (label j p) w) v → Next m (net_of m T) T.source t j (Some w) v
    goes_on v r = next_some w v ((found laws T t set).next_way j w v path (subst (λ z. Soonest (Later Wb WH (j, z) w) v) (sym is) (later_to p w v held r)))

    module _ (last : Last (Back m T) (Home m T) (label j p) w) where
      last_at : Last Wb WH (j, walk_length m (net_of m T) w) w
      last_at = subst (λ z. Last Wb WH (j, z) w) (sym is) (last_to p w held last)

      -- a length after that of w stands at a higher place
      higher : (x : V) (q : Placed laws T t set j x) → Before m (walk_length m (net_of m T) w) x → p + 1 ≤ q.place
      higher x q b = let l = lower p q.place held q.held (subst (λ y. Before m y (val m T j q.place)) is (subst (Before m (walk_length m (net_of m T) w)) (sym q.is) b)) in omega arith

      -- else the first way of the next length
      pub moves_on : (v : List ℕ) → Held T j (p + 1) → Soonest (WayFrom m T (label j (p + 1))) v → Next m (net_of m T) T.source t j (Some w) v
      moves_on v h r = next_some w v ((found laws T t set).next_length j (val m T j (p + 1)) w v path last_at (record {
        there = val_in laws T t set j (p + 1) h;
        after = subst (λ y. Before m y (val m T j (p + 1))) (sym is) (climbs p (p + 1) held h (omega arith));
        first = first;
      }) (soonest_to (p + 1) v h r))
        where
          first : (x : V) → In x (S j) → Before m (walk_length m (net_of m T) w) x → ¬ Before m x (val m T j (p + 1))
          first x i a b =
              let q = place_of x i in
              let up = higher x q a in
              let down = lower q.place (p + 1) q.held h (subst (λ y. Before m y (val m T j (p + 1))) (sym q.is) b) in
              omega arith

      -- else there is none
      pub closes : ¬ Held T j (p + 1) → (u : List ℕ) → PathTo m (net_of m T) T.source t j u → ¬ Since m (net_of m T) T.source t (Some w) u
      closes out u r s =
          (found laws T t set).none_left j w path last_at (λ x i b. let q = place_of x i in out (lower_held (p + 1) q.place (higher x q b) q.held)) u (as_path u r) s
