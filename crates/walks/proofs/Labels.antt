-- The ways back from a label are the paths of its length.
use Rattle.std.proofs.Common.{◌≡◌, ℕ, zero, suc, ◌*◌, ◌<◌, ◌≤◌, List, [], ◌∷◌, length, Some, None, sym, refl, ap, ◌∙◌, subst, inl, inr, mul-le-mul, arith}
use Rattle.measure.specs.Algebra.{Algebra, Laws, Before, Joinable}
use Rattle.walks.specs.Networks.{Network, Open}
use Rattle.walks.specs.Walks.{Walk, walk_length}
use Rattle.walks.specs.Circuits.{NullCircuit}
use Rattle.walks.specs.Rows.{Table, In}
use Rattle.walks.specs.Method.{rows}
use Rattle.walks.specs.Runs.{Settles}
use Rattle.walks.specs.Paths.{Ahead, PathTo, Since, Next}
use Rattle.walks.specs.Theorems.{Within}
use Rattle.walks.specs.Ways.{Soonest, Later, Last, Steady}
use Rattle.walks.specs.Labels.{Back, Home, WayOf, NextLength, FoundByLabels, NextPaths}
use Rattle.walks.proofs.Orders.{never, before_not}
use Rattle.walks.proofs.Lengths.{weight_small}
use Rattle.walks.proofs.Traces.{cancel}
use Rattle.walks.proofs.Ends.{settled_is}
use Rattle.walks.proofs.Solving.{settled_exact, joinable}
use Rattle.walks.proofs.Paths.{part_path, few}
use Rattle.walks.proofs.Ways.{stepwise}

module _ {V : Type 0} {m : Algebra V} {net : Network V} {k s : ℕ} (laws : Laws m) (g : Within m net (suc k) s) (none : ¬ NullCircuit m net s) (q : ℕ) (h : Settles m net (suc k) s (rows m net (suc k) s) (suc (suc q))) where
  abbrev T : Table V
  T = rows m net (suc k) s (suc (suc q))

  abbrev L : List ℕ → V
  L = walk_length m net

  product : net.nodes * suc k ≤ 1000 * 20
  product = mul-le-mul g.nodes_high g.k_high

  -- an arc after a path of a row, towards a value of a row
  more_path : (j a : ℕ) (w : List ℕ) → Open net a → net.end a ≡ j → PathTo m net s T (net.start a) w → In (L (a ∷ w)) (T j) → PathTo m net s T j (a ∷ w)
  more_path j a w o e p i =
      let f = few laws g q h none (net.start a) w p in
      let light = weight_small laws net s (net.start a) w g.formed p.leads in
      let r = g.formed a o in
      let c = product in
      record { leads = (o, e, p.leads); counted = omega arith; inside = i }

  way_path : (j : ℕ) (x : V) (w : List ℕ) → In x (T j) → WayOf m net s T (j, x) w → PathTo m net s T j w × (L w ≡ x)
  way_path j x [] i w = (record { leads = sym w.0; counted = omega arith; inside = subst (λ z. In z (T j)) w.1 i }, sym w.1)
  way_path j x (a ∷ w) i r =
      let y = r.0 in
      let b = r.1.0 in
      let ih = way_path y.0 y.1 w b.there r.1.1 in
      let e : L (a ∷ w) ≡ x = ap (λ z. m.plus z (net.arc_length a)) ih.1 ∙ b.sum in
      (more_path j a w b.is_open b.into (subst (λ v. PathTo m net s T v w) (sym b.from) ih.0) (subst (λ z. In z (T j)) (sym e) i), e)

  path_way : (j : ℕ) (w : List ℕ) → PathTo m net s T j w → WayOf m net s T (j, L w) w
  path_way j [] p = (sym p.leads, refl)
  path_way j (a ∷ w) p =
      let r = part_path laws g q h j a w p in
      ((net.start a, L w), (record { is_open = p.leads.0; into = p.leads.1; from = refl; here = p.inside; there = r.inside; sum = refl }, path_way (net.start a) w r))

  way_of : (j : ℕ) (x : V) (w : List ℕ) → PathTo m net s T j w → L w ≡ x → WayOf m net s T (j, x) w
  way_of j x w p e = subst (λ z. WayOf m net s T (j, z) w) e (path_way j w p)

  fits : (x y : ℕ × V) (a : ℕ) → Back m net s T x a y → Joinable m y.1 (net.arc_length a)
  fits x y a b = joinable laws g (suc (suc q)) a y.1 h.in_time b.is_open (subst (λ i. In y.1 (T i)) (sym b.from) b.there)

  -- a walk for a length of a row
  some_path : (j : ℕ) (x : V) → In x (T j) → (w : List ℕ) × (PathTo m net s T j w × (L w ≡ x))
  some_path j x i = let r = (settled_exact laws g (suc (suc q)) h j).from x i in (r.walk, (record { leads = r.leads; counted = r.counted; inside = subst (λ z. In z (T j)) (sym r.is) i }, r.is))

  steady : Steady (Back m net s T) (Home m net s T) (net.nodes * suc k)
  steady = record { once = once; numbered = λ x y a b. b.is_open.low; ends = ends; live = live; few = short }
    where
      once : (x y z : ℕ × V) (a : ℕ) (w : List ℕ) → Back m net s T x a y → Back m net s T x a z → WayOf m net s T z w → WayOf m net s T y w
      once x y z a w b c v =
          let node : z.0 ≡ y.0 = sym c.from ∙ b.from in
          let value : z.1 ≡ y.1 = cancel laws z.1 y.1 (net.arc_length a) (fits x z a c) (fits x y a b) (c.sum ∙ sym b.sum) in
          subst (λ i. WayOf m net s T (i, y.1) w) node (subst (λ v. WayOf m net s T (z.0, v) w) value v)

      ends : (x y : ℕ × V) (a : ℕ) → Home m net s T x → ¬ Back m net s T x a y
      ends x y a home b =
          let r = some_path y.0 y.1 b.there in
          let e : L (a ∷ r.0) ≡ x.1 = ap (λ z. m.plus z (net.arc_length a)) r.1.1 ∙ b.sum in
          let p = more_path x.0 a r.0 b.is_open b.into (subst (λ i. PathTo m net s T i r.0) (sym b.from) r.1.0) (subst (λ z. In z (T x.0)) (sym e) b.here) in
          none (record { at = s; way = []; leads = refl; way_counted = omega arith; last = a; rest = r.0; round = subst (λ i. Walk net s i (a ∷ r.0)) home.0 p.leads; counted = p.counted; admitted = e ∙ home.1 })

      live : (x y : ℕ × V) (a : ℕ) → Back m net s T x a y → (w : List ℕ) × WayOf m net s T y w
      live x y a b = let r = some_path y.0 y.1 b.there in (r.0, way_of y.0 y.1 r.0 r.1.0 r.1.1)

      short : (x y : ℕ × V) (a : ℕ) (w : List ℕ) → Back m net s T x a y → WayOf m net s T y w → length (a ∷ w) < net.nodes * suc k
      short x y a w b v = let r = way_path x.0 x.1 (a ∷ w) b.here (y, (b, v)) in few laws g q h none x.0 (a ∷ w) r.0

  first : (j : ℕ) (x : V) (w : List ℕ) → In x (T j) → ((z : V) → In z (T j) → ¬ Before m z x) → Soonest (WayOf m net s T (j, x)) w → Next m net s T j None w
  first j x w i low r = record { path = p.0; since = tt; first = λ v pv z a. not_ahead v pv a }
    where
      p : PathTo m net s T j w × (L w ≡ x)
      p = way_path j x w i r.holds

      not_ahead : (v : List ℕ) → PathTo m net s T j v → ¬ Ahead m net v w
      not_ahead v pv (inl b) = low (L v) pv.inside (subst (Before m (L v)) p.1 b)
      not_ahead v pv (inr b) = r.first v (way_of j x v pv (b.0 ∙ p.1)) b.1

  next_way : (j : ℕ) (w v : List ℕ) → PathTo m net s T j w → Soonest (Later (Back m net s T) (Home m net s T) (j, L w) w) v → Next m net s T j (Some w) v
  next_way j w v pw r = record { path = p.0; since = inr (sym p.1, r.holds.1); first = not_ahead }
    where
      p : PathTo m net s T j v × (L v ≡ L w)
      p = way_path j (L w) v pw.inside r.holds.0

      not_ahead : (u : List ℕ) → PathTo m net s T j u → Ahead m net w u → ¬ Ahead m net u v
      not_ahead u pu (inl a) (inl b) = before_not laws (L w) (L u) a (subst (Before m (L u)) p.1 b)
      not_ahead u pu (inl a) (inr b) = never laws (L u) (subst (λ z. Before m z (L u)) (sym p.1 ∙ sym b.0) a)
      not_ahead u pu (inr a) (inl b) = never laws (L u) (subst (Before m (L u)) (p.1 ∙ a.0) b)
      not_ahead u pu (inr a) (inr b) = r.first u (way_of j (L w) u pu (sym a.0), a.1) b.1

  next_length : (j : ℕ) (y : V) (w v : List ℕ) → PathTo m net s T j w → Last (Back m net s T) (Home m net s T) (j, L w) w → NextLength m net s T (T j) (L w) y → Soonest (WayOf m net s T (j, y)) v → Next m net s T j (Some w) v
  next_length j y w v pw last n r = record { path = p.0; since = inl (subst (Before m (L w)) (sym p.1) n.after); first = not_ahead }
    where
      p : PathTo m net s T j v × (L v ≡ y)
      p = way_path j y v n.there r.holds

      not_ahead : (u : List ℕ) → PathTo m net s T j u → Ahead m net w u → ¬ Ahead m net u v
      not_ahead u pu (inl a) (inl b) = n.first (L u) pu.inside a (subst (Before m (L u)) p.1 b)
      not_ahead u pu (inl a) (inr b) = r.first u (way_of j y u pu (b.0 ∙ p.1)) b.1
      not_ahead u pu (inr a) b = last u (way_of j (L w) u pu (sym a.0)) a.1

  none_left : (j : ℕ) (w : List ℕ) → PathTo m net s T j w → Last (Back m net s T) (Home m net s T) (j, L w) w → ((z : V) → In z (T j) → ¬ Before m (L w) z) → (v : List ℕ) → PathTo m net s T j v → ¬ Since m net s T (Some w) v
  none_left j w pw last high v pv (inl a) = high (L v) pv.inside a
  none_left j w pw last high v pv (inr a) = last v (way_of j (L w) v pv (sym a.0)) a.1

  found : FoundByLabels m net s T (suc k)
  found = record { way_path = way_path; path_way = path_way; steady = steady; stepwise = stepwise steady; first = first; next_way = next_way; next_length = next_length; none_left = none_left }

module _ {V : Type 0} {m : Algebra V} {net : Network V} {k s : ℕ} (laws : Laws m) (g : Within m net (suc k) s) (none : ¬ NullCircuit m net s) where
  found_at : (p : ℕ) → Settles m net (suc k) s (rows m net (suc k) s) p → FoundByLabels m net s (rows m net (suc k) s p) (suc k)
  found_at zero h = absurd (omega (arith, h.second))
  found_at (suc zero) h = absurd (omega (arith, h.second))
  found_at (suc (suc q)) h = found laws g none q h

pub next_paths : {V : Type 0} {m : Algebra V} → Laws m → NextPaths m
next_paths laws net zero s g p e none = absurd (omega (arith, g.k_low))
next_paths laws net (suc k) s g p e none = found_at laws g none p (settled_is laws net (suc k) s p e)
