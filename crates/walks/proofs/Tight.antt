-- NullCircuit circuits are the circuits of tight arcs.
use Rattle.std.proofs.Common.{◌≡◌, ℕ, suc, ◌+◌, ◌*◌, ◌^◌, ◌≤◌, List, [], ◌∷◌, ◌++◌, sym, refl, ap, ◌∙◌, subst, inl, inr, append_assoc, arith}
use Rattle.measure.specs.Algebra.{Algebra, Laws, Before, Joinable}
use Rattle.walks.specs.Networks.{Network, Open, WellFormed}
use Rattle.walks.specs.Walks.{Walk, walk_length, weight, Counted}
use Rattle.walks.specs.Circuits.{NullCircuit}
use Rattle.walks.specs.Rows.{In, Covers, Table}
use Rattle.walks.specs.Nulls.{FirstLength, Tight, AllTight}
use Rattle.walks.proofs.Orders.{Three, before, same, after, three, never, before_not}
use Rattle.walks.proofs.Lengths.{walk_append, weight_append, magnitude_walk, walk_length_append, weight_small}
use Rattle.walks.proofs.Runs.{Walked, Sound}

module _ {V : Type 0} (m : Algebra V) (net : Network V) (table : Table V) where
  pub head_once : (j : ℕ) (x y : V) → FirstLength m net table j x → FirstLength m net table j y → x ≡ y
  head_once j x y h k = let p = h.is in let q = k.is in cc

module _ {V : Type 0} {m : Algebra V} (laws : Laws m) (net : Network V) (formed : WellFormed m net) (s k b : ℕ) (table : Table V) (sound : Sound m net s b table)
    (all : (j : ℕ) (w : List ℕ) → Walk net s j w → Counted m net w → Covers m (suc k) (table j) (walk_length m net w)) where
  -- room for a walk w behind any walk of a row
  abbrev pub Spare : List ℕ → Type 0
  Spare w = b * 10 ^ 9 + weight m net w ≤ 2 ^ 62

  reached : (j : ℕ) (x : V) → FirstLength m net table j x → Walked m net s b j x
  reached j x h = sound j x (subst (In x) (sym h.is) (inl refl))

  light : (j : ℕ) (x : V) → b * 10 ^ 9 ≤ 2 ^ 62 → FirstLength m net table j x → m.magnitude x ≤ b * 10 ^ 9
  light j x small h =
      let w = reached j x h in
      let q = weight_small laws net s j w.walk formed w.leads in
      let f = w.few in
      subst (λ v. m.magnitude v ≤ b * 10 ^ 9) w.is (omega (arith, magnitude_walk laws net w.walk (omega arith)))

  -- v's first length and the way on bound the first length at its end
  record Low (j : ℕ) (x : V) : Type 0 where
    value : V
    head : FirstLength m net table j value
    low : ¬ Before m x value

  heads_low : (v j : ℕ) (h : V) (u : List ℕ) → Spare u → Walk net v j u → FirstLength m net table v h → Low j (m.plus h (walk_length m net u))
  heads_low v j h u spare on head = go (table j) refl (all j (u ++ w.walk) (walk_append net s v j u w.walk on w.leads) counted)
    where
      w : Walked m net s b v h
      w = reached v h head

      counted : Counted m net (u ++ w.walk)
      counted = omega (arith, weight_append laws net u w.walk, weight_small laws net s v w.walk formed w.leads, w.few)

      is : walk_length m net (u ++ w.walk) ≡ m.plus h (walk_length m net u)
      is = walk_length_append laws net u w.walk counted ∙ ap (λ x. m.plus x (walk_length m net u)) w.is

      not_less : (g : V) (gs : List V) → Covers m (suc k) (g ∷ gs) (walk_length m net (u ++ w.walk)) → ¬ Before m (m.plus h (walk_length m net u)) g
      not_less g gs (inl e) l = never laws g (subst (λ x. Before m x g) (sym is ∙ e) l)
      not_less g gs (inr c) l = before_not laws g (m.plus h (walk_length m net u)) (subst (Before m g) is c.0) l

      go : (row : List V) → table j ≡ row → Covers m (suc k) row (walk_length m net (u ++ w.walk)) → Low j (m.plus h (walk_length m net u))
      go [] e c = absurd c
      go (g ∷ gs) e c = record { value = g; head = record { rest = gs; is = e }; low = not_less g gs c }

  -- along tight arcs the first lengths add up
  tight_sum : (v j : ℕ) (h : V) (u : List ℕ) → Spare u → Walk net v j u → AllTight m net table u → FirstLength m net table v h → FirstLength m net table j (m.plus h (walk_length m net u))
  tight_sum v j h [] spare on tight head = rw (laws.null_right h) (subst (λ i. FirstLength m net table i h) on head)
  tight_sum v j h (a ∷ u) spare on tight head =
      let t = tight.0 in
      let ih = tight_sum v (net.start a) h u (omega arith) on.2 tight.1 head in
      let e = head_once m net table (net.start a) t.there (m.plus h (walk_length m net u)) t.start ih in
      let i = light v h (omega arith) head in
      let n = magnitude_walk laws net u (omega arith) in
      let d = laws.associative h (walk_length m net u) (net.arc_length a) (omega arith) in
      subst₂' (net.end a) j t.here (m.plus h (walk_length m net (a ∷ u))) on.1 (sym t.sum ∙ ap (λ x. m.plus x (net.arc_length a)) e ∙ d) t.end
    where
      subst₂' : (i j : ℕ) (x y : V) → i ≡ j → x ≡ y → FirstLength m net table i x → FirstLength m net table j y
      subst₂' i j x y p q z = subst (λ l. FirstLength m net table l y) p (subst (FirstLength m net table i) q z)

  -- a circuit of tight arcs is a null circuit
  pub tight_null : (v a : ℕ) (c : List ℕ) (h : V) → Spare (a ∷ c) → FirstLength m net table v h → Walk net v v (a ∷ c) → AllTight m net table (a ∷ c) → NullCircuit m net s
  tight_null v a c h spare head round tight =
      record { at = v; way = (reached v h head).walk; leads = (reached v h head).leads; way_counted = omega (arith, weight_small laws net s v (reached v h head).walk formed (reached v h head).leads, (reached v h head).few); last = a; rest = c; round = round; counted = omega arith; admitted = go (three laws (walk_length m net (a ∷ c)) m.null) }
    where
      e : h ≡ m.plus h (walk_length m net (a ∷ c))
      e = head_once m net table v h (m.plus h (walk_length m net (a ∷ c))) head (tight_sum v v h (a ∷ c) spare round tight head)

      i : m.magnitude h ≤ b * 10 ^ 9
      i = light v h (omega arith) head

      n : m.magnitude (walk_length m net (a ∷ c)) ≤ weight m net (a ∷ c)
      n = magnitude_walk laws net (a ∷ c) (omega arith)

      z : m.magnitude m.null ≡ 0
      z = laws.null_magnitude

      go : Three m (walk_length m net (a ∷ c)) m.null → walk_length m net (a ∷ c) ≡ m.null
      go (before l) = never laws h (subst (λ x. Before m x h) (sym e) (subst (Before m (m.plus h (walk_length m net (a ∷ c)))) (laws.null_right h) (laws.left_monotone (walk_length m net (a ∷ c)) m.null h l (omega (arith, i, n, z)) (omega (arith, i, n, z)))))
      go (same q) = q
      go (after l) = never laws h (subst (Before m h) (sym e) (subst (λ x. Before m x (m.plus h (walk_length m net (a ∷ c)))) (laws.null_right h) (laws.left_monotone m.null (walk_length m net (a ∷ c)) h l (omega (arith, i, n, z)) (omega (arith, i, n, z)))))

  slack : (h x y : V) (u : List ℕ) (a : ℕ) (t : List ℕ) → b * 10 ^ 9 + weight m net (u ++ (a ∷ t)) ≤ 2 ^ 62 → walk_length m net (u ++ (a ∷ t)) ≡ m.null
      → m.magnitude h ≤ b * 10 ^ 9 → m.magnitude x ≤ b * 10 ^ 9 → m.magnitude y ≤ b * 10 ^ 9
      → ¬ Before m (m.plus h (walk_length m net t)) x → ¬ Before m (m.plus y (walk_length m net u)) h → Before m y (m.plus x (net.arc_length a)) → ⊥
  slack h x y u a t spare none lh lx ly first third l =
      let wt = weight_append laws net u (a ∷ t) in
      let nt = magnitude_walk laws net t (omega arith) in
      let nat = magnitude_walk laws net (a ∷ t) (omega arith) in
      let nu = magnitude_walk laws net u (omega arith) in
      let sub = laws.subadditive h (walk_length m net t) (omega arith) in
      let sub' = laws.subadditive h (walk_length m net (a ∷ t)) (omega arith) in
      let assoc = laws.associative h (walk_length m net t) (net.arc_length a) (omega arith) in
      let assoc' = laws.associative h (walk_length m net (a ∷ t)) (walk_length m net u) (omega arith) in
      let total : m.plus (m.plus h (walk_length m net (a ∷ t))) (walk_length m net u) ≡ h = assoc' ∙ ap (m.plus h) (sym (walk_length_append laws net u (a ∷ t) (omega arith)) ∙ none) ∙ laws.null_right h in
      let up : Before m y (m.plus h (walk_length m net (a ∷ t))) = subst (Before m y) assoc (over (three laws x (m.plus h (walk_length m net t))) (omega arith) (omega arith)) in
      third (subst (Before m (m.plus y (walk_length m net u))) total (laws.right_monotone y (m.plus h (walk_length m net (a ∷ t))) (walk_length m net u) up (omega arith) (omega arith)))
    where
      over : Three m x (m.plus h (walk_length m net t)) → Joinable m x (net.arc_length a) → Joinable m (m.plus h (walk_length m net t)) (net.arc_length a) → Before m y (m.plus (m.plus h (walk_length m net t)) (net.arc_length a))
      over (before q) fx fz = laws.transitive y (m.plus x (net.arc_length a)) (m.plus (m.plus h (walk_length m net t)) (net.arc_length a)) l (laws.right_monotone x (m.plus h (walk_length m net t)) (net.arc_length a) q fx fz)
      over (same e) fx fz = subst (λ z. Before m y (m.plus z (net.arc_length a))) e l
      over (after q) fx fz = absurd (first q)

  -- every arc of a null circuit is tight
  module _ (v : ℕ) (h : V) (head : FirstLength m net table v h) where
    tight_at : (u : List ℕ) (a : ℕ) (t : List ℕ) → b * 10 ^ 9 + weight m net (u ++ (a ∷ t)) ≤ 2 ^ 62 → walk_length m net (u ++ (a ∷ t)) ≡ m.null → Open net a → Walk net (net.end a) v u → Walk net v (net.start a) t → Tight m net table a
    tight_at u a t spare none o on back =
        let wt = weight_append laws net u (a ∷ t) in
        let first = heads_low v (net.start a) h t (omega arith) back head in
        let second = heads_low (net.start a) (net.end a) first.value (a ∷ []) (omega arith) (o, refl, refl) first.head in
        go first.value second.value first.head second.head (subst (λ z. ¬ Before m (m.plus first.value z) second.value) (laws.null_left (net.arc_length a)) second.low)
        (slack h first.value second.value u a t spare none (light v h (omega arith) head) (light (net.start a) first.value (omega arith) first.head) (light (net.end a) second.value (omega arith) second.head) first.low
        (home second.value u (heads_low (net.end a) v second.value u (omega arith) on second.head)))
      where
        home : (y : V) (u : List ℕ) → Low v (m.plus y (walk_length m net u)) → ¬ Before m (m.plus y (walk_length m net u)) h
        home y u low = subst (λ z. ¬ Before m (m.plus y (walk_length m net u)) z) (head_once m net table v low.value h low.head head) low.low

        go : (x y : V) → FirstLength m net table (net.start a) x → FirstLength m net table (net.end a) y → ¬ Before m (m.plus x (net.arc_length a)) y → (Before m y (m.plus x (net.arc_length a)) → ⊥) → Tight m net table a
        go x y p q low clash = by (three laws y (m.plus x (net.arc_length a)))
          where
            by : Three m y (m.plus x (net.arc_length a)) → Tight m net table a
            by (before l) = absurd (clash l)
            by (same e) = record { is_open = o; there = x; here = y; start = p; end = q; sum = sym e }
            by (after l) = absurd (low l)

    all_tight : (x : ℕ) (u t : List ℕ) → b * 10 ^ 9 + weight m net (u ++ t) ≤ 2 ^ 62 → walk_length m net (u ++ t) ≡ m.null → Walk net x v u → Walk net v x t → AllTight m net table t
    all_tight x u [] spare none on back = tt
    all_tight x u (a ∷ t) spare none on back =
        let e : (u ++ (a ∷ [])) ++ t ≡ u ++ (a ∷ t) = append_assoc u (a ∷ []) t in (
          tight_at u a t spare none back.0 (subst (λ z. Walk net z v u) (sym back.1) on) back.2,
          all_tight (net.start a) (u ++ (a ∷ [])) t (rw e spare) (rw e none) (walk_append net (net.start a) x v u (a ∷ []) on (back.0, back.1, refl)) back.2,
        )

  -- a null circuit is a circuit of tight arcs
  pub null_tight : (v : ℕ) (h : V) (c : List ℕ) → Spare c → FirstLength m net table v h → Walk net v v c → walk_length m net c ≡ m.null → AllTight m net table c
  null_tight v h c spare head round none = all_tight v h head v [] c spare none refl round
