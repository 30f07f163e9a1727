-- Whether a null circuit is reached, by tight arcs.
use Rattle.std.proofs.Common.{◌≡◌, ℕ, zero, suc, ◌+◌, ◌*◌, ◌^◌, ◌<◌, ◌≤◌, Bool, false, List, [], ◌∷◌, ◌++◌, length, sym, refl, ap, ◌∙◌, subst, arith, length-append}
use native.Mathlib.Decide.{dec_lt}
use Rattle.measure.specs.Algebra.{Algebra, Laws, Before}
use Rattle.walks.specs.Networks.{Network, WellFormed}
use Rattle.walks.specs.Walks.{Walk, walk_length, weight, Counted}
use Rattle.walks.specs.Circuits.{NegativeCircuit, NullCircuit}
use Rattle.walks.specs.Rows.{Covers, Table}
use Rattle.walks.specs.Nulls.{FirstLength, Tight, AllTight, Ring, Held}
use Rattle.walks.proofs.Orders.{Three, before, same, after, three}
use Rattle.walks.proofs.Lengths.{walk_append, weight_append, weight_small}
use Rattle.walks.proofs.Runs.{Sound}
use Rattle.walks.proofs.Chains.{longer}
use Rattle.walks.proofs.Circuits.{Looped, looped, Near, near}
use Rattle.walks.proofs.Tight.{tight_null, null_tight}

module _ {V : Type 0} (m : Algebra V) (net : Network V) (s : ℕ) where
  -- a null circuit of few arcs, reached by few
  pub record NearNull : Type 0 where
    pub at : ℕ
    pub near : Near net s net.nodes at
    pub last : ℕ
    pub rest : List ℕ
    pub round : Walk net at at (last ∷ rest)
    pub few : length (last ∷ rest) ≤ net.nodes
    pub none : walk_length m net (last ∷ rest) ≡ m.null

module _ {V : Type 0} {m : Algebra V} (laws : Laws m) (net : Network V) (formed : WellFormed m net) (s : ℕ) (low : 1 ≤ s) (high : s ≤ net.nodes) (room : net.nodes * 10 ^ 9 ≤ 2 ^ 62) (no_negative : ¬ NegativeCircuit m net s) where
  near_counted : (v : ℕ) (n : Near net s net.nodes v) → Counted m net n.way
  near_counted v n = omega (arith, weight_small laws net s v n.way formed n.leads, n.few)

  null_near_within : (n v a : ℕ) (w : List ℕ) → length (a ∷ w) ≤ n → Near net s net.nodes v → Walk net v v (a ∷ w) → Counted m net (a ∷ w) → walk_length m net (a ∷ w) ≡ m.null → NearNull m net s
  null_near_within zero v a w few there h counted none = absurd (omega arith)
  null_near_within (suc n) v a w few there h counted none = go (dec_lt net.nodes (length (a ∷ w))) (null_near_within n)
    where
      Hyp : Type 0
      Hyp = (v' a' : ℕ) (w' : List ℕ) → length (a' ∷ w') ≤ n → Near net s net.nodes v' → Walk net v' v' (a' ∷ w') → Counted m net (a' ∷ w') → walk_length m net (a' ∷ w') ≡ m.null → NearNull m net s

      cut : Hyp → Looped net v (net.start a) w → NearNull m net s
      cut ih r = by (three laws (walk_length m net d) m.null)
        where
          u : List ℕ
          u = a ∷ r.u

          d : List ℕ
          d = r.a ∷ r.c

          is : a ∷ w ≡ u ++ (d ++ r.t)
          is = ap (λ l. a ∷ l) r.is

          within : Counted m net (u ++ (d ++ r.t))
          within = subst (Counted m net) is counted

          e₁ : weight m net (u ++ (d ++ r.t)) ≡ weight m net (d ++ r.t) + weight m net u
          e₁ = weight_append laws net u (d ++ r.t)

          e₂ : weight m net (d ++ r.t) ≡ weight m net r.t + weight m net d
          e₂ = weight_append laws net d r.t

          e₃ : weight m net (u ++ r.t) ≡ weight m net r.t + weight m net u
          e₃ = weight_append laws net u r.t

          l₁ : length (a ∷ w) ≡ length u + (length d + length r.t)
          l₁ = ap length is ∙ length-append u (d ++ r.t) ∙ ap (λ z. length u + z) (length-append d r.t)

          on : Walk net r.at v u
          on = (h.0, h.1, r.on)

          way : List ℕ
          way = r.t ++ there.way

          leads : Walk net s r.at way
          leads = walk_append net s v r.at r.t there.way r.leads there.leads

          close : Near net s net.nodes r.at
          close = near {m = m} net formed s low high r.at way leads

          by : Three m (walk_length m net d) m.null → NearNull m net s
          by (before l) = absurd (no_negative (record { at = r.at; way = close.way; leads = close.leads; way_counted = near_counted r.at close; last = r.a; rest = r.c; round = r.round; counted = omega (arith, e₁, e₂, within); admitted = l }))
          by (same e) = ih r.at r.a r.c (omega (arith, l₁)) close r.round (omega (arith, e₁, e₂, within)) e
          by (after l) =
              absurd (no_negative (record {
                at = v;
                way = there.way;
                leads = there.leads;
                way_counted = near_counted v there;
                last = a;
                rest = r.u ++ r.t;
                round = walk_append net v r.at v u r.t on r.leads;
                counted = omega (arith, e₁, e₂, e₃, within);
                admitted = subst (Before m (walk_length m net (u ++ r.t))) (ap (walk_length m net) (sym is) ∙ none) (longer laws net v u d r.t within l);
              }))

      go : Dec (net.nodes < length (a ∷ w)) → Hyp → NearNull m net s
      go (yes l) ih = let p = formed a h.0 in let e = h.1 in cut ih (looped {m = m} net formed v (omega arith) (omega arith) (net.start a) w h.2 (omega arith))
      go (no l) ih = record { at = v; near = there; last = a; rest = w; round = h; few = omega arith; none = none }

  pub null_near : NullCircuit m net s → NearNull m net s
  null_near b = null_near_within (length (b.last ∷ b.rest)) b.at b.last b.rest (omega arith) (near {m = m} net formed s low high b.at b.way b.leads) b.round b.counted b.admitted

module _ {V : Type 0} (m : Algebra V) (net : Network V) (table : Table V) where
  -- a circuit of tight arcs, at most as many as there are nodes
  pub record ShortRing : Type 0 where
    pub at : ℕ
    pub last : ℕ
    pub rest : List ℕ
    pub round : Walk net at at (last ∷ rest)
    pub few : length (last ∷ rest) ≤ net.nodes
    pub tight : AllTight m net table (last ∷ rest)

  tight_part : (u t : List ℕ) → AllTight m net table (u ++ t) → AllTight m net table u × AllTight m net table t
  tight_part [] t h = (tt, h)
  tight_part (a ∷ u) t h = let r = tight_part u t h.1 in ((h.0, r.0), r.1)

  -- a loop on a way of tight arcs is a ring
  loop_tight : (x j : ℕ) (w : List ℕ) (r : Looped net x j w) → AllTight m net table w → AllTight m net table (r.a ∷ r.c)
  loop_tight x j w r t = (tight_part (r.a ∷ r.c) r.t (tight_part r.u ((r.a ∷ r.c) ++ r.t) (subst (AllTight m net table) r.is t)).1).0

  loop_few : (x j : ℕ) (w : List ℕ) (r : Looped net x j w) → length (r.a ∷ r.c) ≤ length w
  loop_few x j w r = omega (arith, ap length r.is, length-append r.u ((r.a ∷ r.c) ++ r.t), length-append (r.a ∷ r.c) r.t)

  -- a ring can be cut to a short one
  short_within : WellFormed m net → (n v a : ℕ) (w : List ℕ) → length (a ∷ w) ≤ n → Walk net v v (a ∷ w) → AllTight m net table (a ∷ w) → ShortRing
  short_within formed zero v a w few h t = absurd (omega arith)
  short_within formed (suc n) v a w few h t = go (dec_lt net.nodes (length (a ∷ w))) (short_within formed n)
    where
      go : Dec (net.nodes < length (a ∷ w)) → ((v' a' : ℕ) (w' : List ℕ) → length (a' ∷ w') ≤ n → Walk net v' v' (a' ∷ w') → AllTight m net table (a' ∷ w') → ShortRing) → ShortRing
      go (no l) ih = record { at = v; last = a; rest = w; round = h; few = omega arith; tight = t }
      go (yes l) ih =
          let p = formed a h.0 in
          let e = h.1 in
          let r = looped {m = m} net formed v (omega arith) (omega arith) (net.start a) w h.2 (omega arith) in
          let f = loop_few v (net.start a) w r in
          ih r.at r.a r.c (omega arith) r.round (loop_tight v (net.start a) w r t.1)

  pub short_ring : WellFormed m net → Ring m net table → ShortRing
  short_ring formed r = short_within formed (length (r.last ∷ r.rest)) r.at r.last r.rest (omega arith) r.round r.tight

  -- nodes ranked along the tight arcs: there is no ring
  pub ranked : (rank : ℕ → ℕ) → ((a : ℕ) → Tight m net table a → rank (net.start a) < rank (net.end a)) → ¬ Ring m net table
  ranked rank up r = let e = climb r.at r.at (r.last ∷ r.rest) r.round r.tight in omega arith
    where
      climb : (v j : ℕ) (u : List ℕ) → Walk net v j u → AllTight m net table u → rank v + length u ≤ rank j
      climb v j [] h t = omega (arith, ap rank h)
      climb v j (a ∷ u) h t = let ih = climb v (net.start a) u h.2 t.1 in omega (arith, up a t.0, ap rank h.1)

  -- n tight arcs lead to j
  pub record Behind (n j : ℕ) : Type 0 where
    pub at : ℕ
    pub way : List ℕ
    pub leads : Walk net at j way
    pub many : length way ≡ n
    pub tight : AllTight m net table way

  starts_in : WellFormed m net → (v j a : ℕ) (w : List ℕ) → Walk net v j (a ∷ w) → (1 ≤ v) × (v ≤ net.nodes)
  starts_in formed v j a [] h = let p = formed a h.0 in (omega (arith, p.start_low, h.2), omega (arith, p.start_high, h.2))
  starts_in formed v j a (b ∷ w) h = starts_in formed v (net.start a) b w h.2

  -- as many as there are nodes: then there is a ring
  pub behind_ring : WellFormed m net → (j : ℕ) → 1 ≤ net.nodes → Behind net.nodes j → Ring m net table
  behind_ring formed j some b = go b.way b.leads b.many b.tight
    where
      go : (w : List ℕ) → Walk net b.at j w → length w ≡ net.nodes → AllTight m net table w → Ring m net table
      go [] h many t = absurd (omega arith)
      go (a ∷ w) h many t =
          let i = starts_in formed b.at j a w h in
          let l = looped {m = m} net formed b.at i.0 i.1 j (a ∷ w) h (omega arith) in
          record { at = l.at; last = l.a; rest = l.c; round = l.round; tight = loop_tight b.at j (a ∷ w) l t }

  pub behind_more : (n : ℕ) (a j : ℕ) → Tight m net table a → net.end a ≡ j → Behind n (net.start a) → Behind (suc n) j
  behind_more n a j t e r = record { at = r.at; way = a ∷ r.way; leads = (t.is_open, e, r.leads); many = ap suc r.many; tight = (t, r.tight) }

  -- nodes without a mark that are held by one another: then there is a ring
  pub held_ring : WellFormed m net → (mark : ℕ → Bool) → ((j : ℕ) → 1 ≤ j → j ≤ net.nodes → mark j ≡ false → Held m net table mark j) → (j : ℕ) → 1 ≤ j → j ≤ net.nodes → mark j ≡ false → Ring m net table
  held_ring formed mark held j low high none = behind_ring formed j (omega arith) (back net.nodes j low high none)
    where
      back : (n i : ℕ) → 1 ≤ i → i ≤ net.nodes → mark i ≡ false → Behind n i
      back zero i l h e = record { at = i; way = []; leads = refl; many = refl; tight = tt }
      back (suc n) i l h e =
          let f = held i l h e in
          let p = formed f.arc f.tight.is_open in
          behind_more n f.arc i f.tight f.into (back n (net.start f.arc) p.start_low p.start_high f.from)

module _ {V : Type 0} {m : Algebra V} (laws : Laws m) (net : Network V) (formed : WellFormed m net) (s k b : ℕ) (low : 1 ≤ s) (high : s ≤ net.nodes) (no_negative : ¬ NegativeCircuit m net s) (table : Table V)
    (small : b * 10 ^ 9 + net.nodes * 10 ^ 9 ≤ 2 ^ 62) (sound : Sound m net s b table)
    (all : (j : ℕ) (w : List ℕ) → Walk net s j w → Counted m net w → Covers m (suc k) (table j) (walk_length m net w)) where
  record Some (j : ℕ) : Type 0 where
    value : V
    head : FirstLength m net table j value

  some : (j : ℕ) → Near net s net.nodes j → Some j
  some j n = go (table j) refl (all j n.way n.leads (omega (arith, weight_small laws net s j n.way formed n.leads, n.few)))
    where
      go : (row : List V) → table j ≡ row → Covers m (suc k) row (walk_length m net n.way) → Some j
      go [] e c = absurd c
      go (g ∷ gs) e c = record { value = g; head = record { rest = gs; is = e } }

  -- a null circuit is reached if and only if there is a circuit of tight arcs
  pub null_ring : NullCircuit m net s → Ring m net table
  null_ring n =
      let t = null_near laws net formed s low high (omega arith) no_negative n in
      let h = some t.at t.near in
      let w = weight_small laws net t.at t.at (t.last ∷ t.rest) formed t.round in
      let f = t.few in
      record {
        at = t.at;
        last = t.last;
        rest = t.rest;
        round = t.round;
        tight = null_tight laws net formed s k b table sound all t.at h.value (t.last ∷ t.rest) (omega arith) h.head t.round t.none;
      }

  pub ring_null : Ring m net table → NullCircuit m net s
  ring_null ring =
      let r = short_ring m net table formed ring in
      let w = weight_small laws net r.at r.at (r.last ∷ r.rest) formed r.round in
      let f = r.few in
      let h = subst (λ j. FirstLength m net table j r.tight.0.here) r.round.1 r.tight.0.end in
      tight_null laws net formed s k b table sound all r.at r.last r.rest r.tight.0.here (omega arith) h r.round r.tight
