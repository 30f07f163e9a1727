-- Short walks and short circuits.
use Rattle.std.proofs.Common.{◌≡◌, ℕ, zero, suc, ◌+◌, ◌*◌, ◌^◌, ◌<◌, ◌≤◌, List, [], ◌∷◌, ◌++◌, length, sym, refl, ap, ◌∙◌, subst, inl, inr, arith, length-append}
use native.Mathlib.Decide.{dec_lt}
use Rattle.measure.specs.Algebra.{Algebra, Laws, Before}
use Rattle.walks.specs.Networks.{Network, ProperArc, WellFormed}
use Rattle.walks.specs.Walks.{Walk, walk_length, weight, Counted}
use Rattle.walks.specs.Circuits.{NegativeCircuit}
use Rattle.walks.specs.Rows.{In, Covers, Table}
use Rattle.walks.proofs.Orders.{Three, before, same, after, three, never, before_not}
use Rattle.walks.proofs.Lengths.{walk_append, weight_append, weight_small}
use Rattle.walks.proofs.Counting.{Full, one_most}
use Rattle.walks.proofs.Visits.{visits, Visit, visit, crowded}
use Rattle.walks.proofs.Runs.{Walked, Sound}
use Rattle.walks.proofs.Chains.{same_length, round_less, longer}

module _ {V : Type 0} (net : Network V) where
  -- w, from x to j, goes round a circuit on its way
  pub record Looped (x j : ℕ) (w : List ℕ) : Type 0 where
    pub at : ℕ
    pub u : List ℕ
    pub a : ℕ
    pub c : List ℕ
    pub t : List ℕ
    pub is : w ≡ u ++ ((a ∷ c) ++ t)
    pub leads : Walk net x at t
    pub round : Walk net at at (a ∷ c)
    pub on : Walk net at j u

  -- v can be reached by a walk of at most n arcs
  pub record Near (s n v : ℕ) : Type 0 where
    pub way : List ℕ
    pub leads : Walk net s v way
    pub few : length way ≤ n

module _ {V : Type 0} {m : Algebra V} (net : Network V) (formed : WellFormed m net) (x : ℕ) (low : 1 ≤ x) (high : x ≤ net.nodes) where
  pub looped : (j : ℕ) (w : List ℕ) → Walk net x j w → net.nodes ≤ length w → Looped net x j w
  looped j w h enough = outer f.hole (visit net x w j f.hole 2 h (omega arith) f.many)
    where
      f : Full (visits net x w) net.nodes 1
      f = crowded {m = m} net formed x low high w j 1 h (omega arith)

      inner : (v : ℕ) (u t : List ℕ) → w ≡ u ++ t → Walk net v j u → Walk net x v t → 2 ≤ visits net x t v → Looped net x j w
      inner v u [] e on l many = absurd (omega (arith, one_most x v))
      inner v u (a ∷ t) e on l many =
          let r = visit net x t (net.start a) v 1 l.2 (omega arith) (omega (arith, one_most (net.end a) v)) in
          record { at = v; u = u; a = a; c = r.then; t = r.first; is = e ∙ ap (λ l'. u ++ (a ∷ l')) r.is; leads = r.leads; round = (l.0, l.1, r.on); on = on }

      outer : (v : ℕ) → Visit net x w j v 2 → Looped net x j w
      outer v r = inner v r.then r.first r.is r.on r.leads r.often

  near_within : (n j : ℕ) (w : List ℕ) → length w ≤ n → Walk net x j w → Near net x net.nodes j
  near_within zero j w few h = record { way = w; leads = h; few = omega arith }
  near_within (suc n) j w few h = go (dec_lt (length w) net.nodes) (near_within n j)
    where
      go : Dec (length w < net.nodes) → ((w' : List ℕ) → length w' ≤ n → Walk net x j w' → Near net x net.nodes j) → Near net x net.nodes j
      go (yes l) ih = record { way = w; leads = h; few = omega arith }
      go (no l) ih =
          let r = looped j w h (omega arith) in
          ih (r.u ++ r.t) (omega (arith, length-append r.u r.t, ap length r.is, length-append r.u ((r.a ∷ r.c) ++ r.t), length-append (r.a ∷ r.c) r.t)) (walk_append net x r.at j r.u r.t r.on r.leads)

  pub near : (j : ℕ) (w : List ℕ) → Walk net x j w → Near net x net.nodes j
  near j w = near_within (length w) j w (omega arith)

module _ {V : Type 0} (m : Algebra V) (net : Network V) (s : ℕ) where
  -- a circuit before null of few arcs, reached by few
  pub record NearNegative : Type 0 where
    pub at : ℕ
    pub way : List ℕ
    pub leads : Walk net s at way
    pub near : length way ≤ net.nodes
    pub last : ℕ
    pub rest : List ℕ
    pub round : Walk net at at (last ∷ rest)
    pub few : length (last ∷ rest) ≤ net.nodes
    pub less : Before m (walk_length m net (last ∷ rest)) m.null

module _ {V : Type 0} {m : Algebra V} (laws : Laws m) (net : Network V) (formed : WellFormed m net) (s : ℕ) (low : 1 ≤ s) (high : s ≤ net.nodes) where
  negative_near_within : (n v : ℕ) (a : ℕ) (w : List ℕ) → length (a ∷ w) ≤ n → Near net s net.nodes v → Walk net v v (a ∷ w) → Counted m net (a ∷ w) → Before m (walk_length m net (a ∷ w)) m.null → NearNegative m net s
  negative_near_within zero v a w few there h counted less = absurd (omega arith)
  negative_near_within (suc n) v a w few there h counted less = go (dec_lt net.nodes (length (a ∷ w))) (negative_near_within n)
    where
      Hyp : Type 0
      Hyp = (v' a' : ℕ) (w' : List ℕ) → length (a' ∷ w') ≤ n → Near net s net.nodes v' → Walk net v' v' (a' ∷ w') → Counted m net (a' ∷ w') → Before m (walk_length m net (a' ∷ w')) m.null → NearNegative m net s

      p : ProperArc m net a
      p = formed a h.0

      low' : 1 ≤ v
      low' = omega (arith, p.end_low, h.1)

      high' : v ≤ net.nodes
      high' = omega (arith, p.end_high, h.1)

      cut : Hyp → Looped net v (net.start a) w → NearNegative m net s
      cut ih r = by (three laws (walk_length m net (r.a ∷ r.c)) m.null)
        where
          u : List ℕ
          u = a ∷ r.u

          d : List ℕ
          d = r.a ∷ r.c

          is : a ∷ w ≡ u ++ (d ++ r.t)
          is = ap (λ l. a ∷ l) r.is

          within : Counted m net (u ++ (d ++ r.t))
          within = subst (Counted m net) is counted

          less' : Before m (walk_length m net (u ++ (d ++ r.t))) m.null
          less' = subst (λ l. Before m (walk_length m net l) m.null) is less

          e₁ : weight m net (u ++ (d ++ r.t)) ≡ weight m net (d ++ r.t) + weight m net u
          e₁ = weight_append laws net u (d ++ r.t)

          e₂ : weight m net (d ++ r.t) ≡ weight m net r.t + weight m net d
          e₂ = weight_append laws net d r.t

          e₃ : weight m net (u ++ r.t) ≡ weight m net r.t + weight m net u
          e₃ = weight_append laws net u r.t

          l₁ : length (a ∷ w) ≡ length u + (length d + length r.t)
          l₁ = ap length is ∙ length-append u (d ++ r.t) ∙ ap (λ z. length u + z) (length-append d r.t)

          on : Walk net r.at v u
          on = (h.0, h.1, r.on)

          shorter : Before m (walk_length m net (u ++ r.t)) m.null → NearNegative m net s
          shorter l = ih v a (r.u ++ r.t) (omega (arith, l₁, length-append u r.t)) there (walk_append net v r.at v u r.t on r.leads) (omega (arith, e₁, e₂, e₃, within)) l

          by : Three m (walk_length m net d) m.null → NearNegative m net s
          by (before l) = ih r.at r.a r.c (omega (arith, l₁)) (near {m = m} net formed s low high r.at (r.t ++ there.way) (walk_append net s v r.at r.t there.way r.leads there.leads)) r.round (omega (arith, e₁, e₂, within)) l
          by (same e) = shorter (subst (λ z. Before m z m.null) (sym (same_length laws net v u d r.t within e)) less')
          by (after l) = shorter (laws.transitive (walk_length m net (u ++ r.t)) (walk_length m net (u ++ (d ++ r.t))) m.null (longer laws net v u d r.t within l) less')

      go : Dec (net.nodes < length (a ∷ w)) → Hyp → NearNegative m net s
      go (yes l) ih = cut ih (looped {m = m} net formed v low' high' (net.start a) w h.2 (omega arith))
      go (no l) ih = record { at = v; way = there.way; leads = there.leads; near = there.few; last = a; rest = w; round = h; few = omega arith; less = less }

  pub negative_near : NegativeCircuit m net s → NearNegative m net s
  negative_near b = negative_near_within (length (b.last ∷ b.rest)) b.at b.last b.rest (omega arith) (near {m = m} net formed s low high b.at b.way b.leads) b.round b.counted b.admitted

  pub near_negative : net.nodes * 10 ^ 9 ≤ 2 ^ 62 → NearNegative m net s → NegativeCircuit m net s
  near_negative small b =
      let e = weight_small laws net b.at b.at (b.last ∷ b.rest) formed b.round in
      let f = b.few in
      let g = weight_small laws net s b.at b.way formed b.leads in
      let d = b.near in
      record { at = b.at; way = b.way; leads = b.leads; way_counted = omega arith; last = b.last; rest = b.rest; round = b.round; counted = omega arith; admitted = b.less }

  -- no circuit before null is reached where a sound table covers all
  pub covering_none : (k b : ℕ) (table : Table V) → b * 10 ^ 9 + net.nodes * 10 ^ 9 ≤ 2 ^ 62 → Sound m net s b table
      → ((j : ℕ) (w : List ℕ) → Walk net s j w → Counted m net w → Covers m (suc k) (table j) (walk_length m net w)) → ¬ NearNegative m net s
  covering_none k b table small sound all z = go (table z.at) refl (all z.at z.way z.leads (omega (arith, weight_small laws net s z.at z.way formed z.leads, z.near)))
    where
      c : List ℕ
      c = z.last ∷ z.rest

      clash : (x y : V) (ys : List V) → Covers m (suc k) (y ∷ ys) x → Before m x y → ⊥
      clash x y ys (inl e) l = never laws y (subst (λ v. Before m v y) e l)
      clash x y ys (inr q) l = before_not laws y x q.0 l

      from : (y : V) (ys : List V) → table z.at ≡ y ∷ ys → Walked m net s b z.at y → ⊥
      from y ys e h =
          let w = weight_small laws net s z.at h.walk formed h.leads in
          let v = weight_small laws net z.at z.at c formed z.round in
          let f = h.few in
          let g = z.few in
          let wa = weight_append laws net c h.walk in
          let counted : Counted m net (c ++ h.walk) = omega arith in
          clash (walk_length m net (c ++ h.walk)) y ys
          (subst (λ row. Covers m (suc k) row (walk_length m net (c ++ h.walk))) e (all z.at (c ++ h.walk) (walk_append net s z.at z.at c h.walk z.round h.leads) counted))
          (subst (Before m (walk_length m net (c ++ h.walk))) h.is (round_less laws net s c h.walk counted z.less))

      go : (row : List V) → table z.at ≡ row → Covers m (suc k) row (walk_length m net z.way) → ⊥
      go [] e q = q
      go (y ∷ ys) e q = from y ys e (sound z.at y (subst (In y) (sym e) (inl refl)))
