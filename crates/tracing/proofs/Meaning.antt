-- The ways back from a label of the tables are the paths of its length.
use Rattle.std.proofs.Common.{◌≡◌, ℕ, zero, suc, ◌+◌, ◌-◌, ◌*◌, ◌<◌, ◌≤◌, List, [], ◌∷◌, length, get_or, drop, sym, refl, ap, ◌∙◌, subst, inl, inr, mul-le-mul, arith}
use Rattle.std.proofs.lemmas.List.{get_or-take, get_or-drop, length-drop, length-take-le, take_all}
use Rattle.measure.specs.Algebra.{Algebra, Laws, Joinable}
use Rattle.walks.specs.Networks.{Network}
use Rattle.walks.specs.Walks.{walk_length}
use Rattle.walks.specs.Rows.{Table, In}
use Rattle.walks.specs.Method.{rows}
use Rattle.walks.specs.Solves.{Outcome, settled, refused, outcome}
use Rattle.walks.specs.Theorems.{Within}
use Rattle.walks.specs.Paths.{PathTo}
use Rattle.walks.specs.Ways.{Steady}
use Rattle.walks.specs.Labels.{FoundByLabels, WayOf}
use Rattle.walks.specs.Labels as walks
use Rattle.walks.proofs.Labels.{next_paths}
use Rattle.walks.proofs.Solving.{exactness, refusals, passes, joins, beginnings}
use Rattle.sweeps.specs.Tables.{arc_at, length_at, start_of, cells, count_of, row_of}
use Rattle.tracing.specs.declared.labels.Label.{Label}
use Rattle.tracing.specs.Tables.{Tables}
use Rattle.tracing.specs.Labels.{label, Held, val, Back, Home}
use Rattle.tracing.specs.Steps.{WayFrom, Alive, Sound}
use Rattle.tracing.specs.Nexts.{net_of, Settled}
use Rattle.tracing.proofs.Cells.{cell_in}

in_at : {V : Type 0} (row : List V) (p : ℕ) (d : V) → p < length row → In (get_or row p d) row
in_at [] p d l = absurd (omega arith)
in_at (x ∷ xs) zero d l = inl refl
in_at (x ∷ xs) (suc p) d l = inr (in_at xs p d (omega arith))

record At {V : Type 0} (row : List V) (d x : V) : Type 0 where
  pub place : ℕ
  pub low : place < length row
  pub is : get_or row place d ≡ x

at_in : {V : Type 0} (row : List V) (d x : V) → In x row → At row d x
at_in [] d x i = absurd i
at_in (y ∷ ys) d x (inl e) = record { place = 0; low = omega arith; is = sym e }
at_in (y ∷ ys) d x (inr i) = let r = at_in ys d x i in record { place = suc r.place; low = omega (arith, r.low); is = r.is }

-- the cells of a row
row_end : (n k j v : ℕ) → n * k ≤ v → 1 ≤ j → j ≤ n → 1 ≤ k → start_of k j + k ≤ v
row_end n k j v size low high pos = let h = cell_in n k j (k - 1) v size low high (omega arith) in omega arith

module _ {V : Type 0} {m : Algebra V} (laws : Laws m) (T : Tables V) (t : Table V) (set : Settled m T t) where
  abbrev pub N : Network V
  N = net_of m T

  pub within : Within m (net_of m T) T.k T.source
  within = record {
    formed = λ a o. set.ordered.proper a o.low o.high;
    nodes_high = set.nodes_high;
    k_low = set.k_low;
    k_high = set.k_high;
    s_low = set.source_low;
    s_high = set.source_high;
  }

  -- a solve of this network settles
  pub settles : (p : ℕ) × (outcome m (net_of m T) T.k T.source ≡ settled p)
  settles = go (outcome m N T.k T.source) refl
    where
      go : (o : Outcome) → outcome m N T.k T.source ≡ o → (p : ℕ) × (outcome m N T.k T.source ≡ settled p)
      go (settled p) e = (p, e)
      go refused e = absurd (set.no_negative ((refusals laws N T.k T.source within).0 e))

  abbrev pub R : Table V
  R = rows m (net_of m T) T.k T.source settles.0

  -- and leaves these rows
  pub same_rows : (j : ℕ) → 1 ≤ j → j ≤ T.nodes → t j ≡ R j
  same_rows j low high =
      let e = exactness laws N T.k T.source within settles.0 settles.1 j in
      (beginnings laws).0 N T.k T.k T.source j (t j) (R j) (omega arith) (set.exact j low high) e ∙ take_all T.k (R j) e.short

  pub found : FoundByLabels m (net_of m T) T.source R T.k
  found = next_paths laws N T.k T.source within settles.0 settles.1 set.no_null

  row_is : (j : ℕ) → 1 ≤ j → j ≤ T.nodes → row_of T.k j T.values T.counts ≡ R j
  row_is j low high = set.held.at j low high ∙ same_rows j low high

  row_long : (j : ℕ) → 1 ≤ j → j ≤ T.nodes → length (row_of T.k j T.values T.counts) ≡ count_of T.counts j
  row_long j low high =
      let size = row_end T.nodes T.k j (length T.values) set.held.value_cells low high set.k_low in
      let d = length-drop (start_of T.k j) T.values in
      let e = length-take-le T.k (drop (start_of T.k j) T.values) (omega arith) in
      length-take-le (count_of T.counts j) (cells T.k j T.values) (omega (arith, set.held.short j low high))

  row_at : (j p : ℕ) → Held T j p → get_or (row_of T.k j T.values T.counts) p m.null ≡ val m T j p
  row_at j p h =
      get_or-take (count_of T.counts j) (cells T.k j T.values) p m.null h.in_count ∙ get_or-take T.k (drop (start_of T.k j) T.values) p m.null h.in_row
      ∙ get_or-drop (start_of T.k j) T.values p m.null

  pub val_at : (j p : ℕ) → Held T j p → (p < length (R j)) × (get_or (R j) p m.null ≡ val m T j p)
  val_at j p h =
      let e = row_is j h.low h.high in
      (omega (arith, row_long j h.low h.high, h.in_count, ap length e), ap (λ row. get_or row p m.null) (sym e) ∙ row_at j p h)

  pub val_in : (j p : ℕ) → Held T j p → In (val m T j p) (R j)
  val_in j p h = let a = val_at j p h in subst (λ x. In x (R j)) a.1 (in_at (R j) p m.null a.0)

  -- a length of a row has a place
  pub record Placed (j : ℕ) (x : V) : Type 0 where
    pub place : ℕ
    pub held : Held T j place
    pub is : val m T j place ≡ x

  pub in_val : (j : ℕ) (x : V) → 1 ≤ j → j ≤ T.nodes → In x (R j) → Placed j x
  in_val j x low high i =
      let r = at_in (R j) m.null x i in
      let l = row_long j low high in
      let e = ap length (row_is j low high) in
      let f = set.held.short j low high in
      let h : Held T j r.place = record { low = low; high = high; in_row = omega (arith, r.low); in_count = omega (arith, r.low) } in
      record { place = r.place; held = h; is = sym (val_at j r.place h).1 ∙ r.is }

  -- the label with its length
  abbrev L : Label → ℕ × V
  L x = (x.node, val m T x.node x.place)

  held_back : (x y : Label) (a : ℕ) → Back m T x a y → Held T y.node y.place
  held_back x y a b = subst (λ i. Held T i y.place) (sym b.from) b.link.start

  to_back : (x y : Label) (a : ℕ) → Back m T x a y → walks.Back m N T.source R (L x) a (L y)
  to_back x y a b = record {
    is_open = record { low = b.low; high = omega (arith, b.high, set.beside); marked = b.link.marked };
    into = b.link.into;
    from = sym b.from;
    here = val_in x.node x.place b.here;
    there = val_in y.node y.place (held_back x y a b);
    sum = ap (λ i. m.plus (val m T i y.place) (length_at m T.lengths a)) b.from ∙ b.link.comes.sum;
  }

  pub to_way : (x : Label) (w : List ℕ) → WayFrom m T x w → WayOf m (net_of m T) T.source R (x.node, val m T x.node x.place) w
  to_way x [] h = (h.1, h.2)
  to_way x (a ∷ w) h = (L h.0, (to_back x h.0 a h.1.0, to_way h.0 w h.1.1))

  from_back : (x : Label) (a : ℕ) (y : ℕ × V) (q : Placed y.0 y.1) → Held T x.node x.place → walks.Back m N T.source R (L x) a y → Back m T x a (label y.0 q.place)
  from_back x a y q h b =
      let e : val m T (arc_at T.arcs a).start q.place ≡ y.1 = ap (λ i. val m T i q.place) b.from ∙ q.is in
      let o = b.is_open in
      let few = (passes laws N T.k T.source within settles.0 settles.1).2 in
      record {
        here = h;
        low = omega (arith, o.low);
        high = omega (arith, o.high);
        from = sym b.from;
        link = record {
          marked = o.marked;
          into = b.into;
          start = subst (λ i. Held T i q.place) (sym b.from) q.held;
          comes = record {
            present = subst (λ v. Joinable m v (length_at m T.lengths a)) (sym e) (joins laws N T.k T.source within settles.0 a y.1 (omega arith) o (subst (λ i. In y.1 (R i)) (sym b.from) b.there));
            sum = ap (λ v. m.plus v (length_at m T.lengths a)) e ∙ b.sum;
          };
        };
      }

  pub from_way : (x : Label) (w : List ℕ) → Held T x.node x.place → WayOf m (net_of m T) T.source R (x.node, val m T x.node x.place) w → WayFrom m T x w
  from_way x [] h r = (h, r.0, r.1)
  from_way x (a ∷ w) h r =
      let y = r.0 in
      let b = r.1.0 in
      let g = within.formed a b.is_open in
      let q = in_val y.0 y.1 (omega (arith, g.start_low, b.from)) (omega (arith, g.start_high, b.from)) b.there in
      (label y.0 q.place, (from_back x a y q h b, from_way (label y.0 q.place) w q.held (subst (λ v. WayOf m N T.source R (y.0, v) w) (sym q.is) r.1.1)))

  pub way_held : (x : Label) (w : List ℕ) → WayFrom m T x w → Held T x.node x.place
  way_held x [] h = h.0
  way_held x (a ∷ w) h = h.1.0.here

  -- a way back is a path of the label's length
  pub path_of : (j p : ℕ) (w : List ℕ) → WayFrom m T (label j p) w → PathTo m (net_of m T) T.source R j w × (walk_length m (net_of m T) w ≡ val m T j p)
  path_of j p w h = found.way_path j (val m T j p) w (val_in j p (way_held (label j p) w h)) (to_way (label j p) w h)

  -- every label has one
  pub alive : (j p : ℕ) → Held T j p → Alive m T (label j p)
  alive j p h =
      let r = (exactness laws N T.k T.source within settles.0 settles.1 j).from (val m T j p) (val_in j p h) in
      let path : PathTo m N T.source R j r.walk = record { leads = r.leads; counted = r.counted; inside = subst (λ x. In x (R j)) (sym r.is) (val_in j p h) } in
      (r.walk, from_way (label j p) r.walk h (subst (λ x. WayOf m N T.source R (j, x) r.walk) r.is (found.path_way j r.walk path)))

  steady_is : Steady (Back m T) (Home m T) (T.nodes * T.k)
  steady_is = record {
    once = λ x y z a w b c h. from_way y w (held_back x y a b) (found.steady.once (L x) (L y) (L z) a w (to_back x y a b) (to_back x z a c) (to_way z w h));
    numbered = λ x y a b. b.low;
    ends = λ x y a h b. found.steady.ends (L x) (L y) a (h.1, h.2) (to_back x y a b);
    live = λ x y a b. alive y.node y.place (held_back x y a b);
    few = λ x y a w b h. found.steady.few (L x) (L y) a w (to_back x y a b) (to_way y w h);
  }

  pub sound_is : Sound m T
  sound_is = record { sorted = λ a b low le high. set.ordered.sorted a b low le (omega (arith, set.beside)); steady = steady_is }

  -- ways are short
  pub few_arcs : (x : Label) (w : List ℕ) → WayFrom m T x w → length w < T.nodes * T.k
  few_arcs x [] h =
      let one : 1 ≤ T.nodes = omega (arith, set.source_low, set.source_high) in
      let some : 1 * 1 ≤ T.nodes * T.k = mul-le-mul one set.k_low in
      omega arith
  few_arcs x (a ∷ w) h = steady_is.few x h.0 a w h.1.0 h.1.1
