-- Long walks are covered because shorter ones are.
use Rattle.std.proofs.Common.{◌≡◌, ℕ, zero, suc, ◌+◌, ◌*◌, ◌<◌, ◌≤◌, ◌⊎◌, List, [], ◌∷◌, ◌++◌, length, sym, ap, ◌∙◌, subst, inl, inr, arith, length-append}
use native.Mathlib.Decide.{dec_lt}
use Rattle.measure.specs.Algebra.{Algebra, Laws, Before}
use Rattle.walks.specs.Networks.{Network, WellFormed}
use Rattle.walks.specs.Walks.{Walk, walk_length, weight, Counted}
use Rattle.walks.specs.Circuits.{NegativeCircuit, NullCircuit}
use Rattle.walks.specs.Rows.{Covers, Table}
use Rattle.walks.proofs.Orders.{Three, before, same, after, three}
use Rattle.walks.proofs.Rows.{Rank, rank_covers, rank_up}
use Rattle.walks.proofs.Lengths.{walk_append, weight_append, magnitude_walk, walk_length_append}
use Rattle.walks.proofs.Counting.{one_most}
use Rattle.walks.proofs.Visits.{visits, Visit, visit, crowded}

module _ {V : Type 0} (m : Algebra V) (net : Network V) (s : ℕ) where
  -- a walk of fewer arcs, no heavier, with the same end and length
  pub record Shorter (v : ℕ) (t : List ℕ) : Type 0 where
    pub way : List ℕ
    pub leads : Walk net s v way
    pub fewer : length way < length t
    pub lighter : weight m net way ≤ weight m net t
    pub is : walk_length m net way ≡ walk_length m net t
    pub zero : NullCircuit m net s

module _ {V : Type 0} {m : Algebra V} (laws : Laws m) (net : Network V) (s : ℕ) where
  -- the same way on from a shorter walk
  pub shorter_on : (v j : ℕ) (u t : List ℕ) → Walk net v j u → Counted m net (u ++ t) → Shorter m net s v t → Shorter m net s j (u ++ t)
  shorter_on v j u t on counted h =
      let e = weight_append laws net u t in
      let d = weight_append laws net u h.way in
      let f = h.fewer in
      let g = h.lighter in
      let within : Counted m net (u ++ h.way) = omega arith in
      record {
        way = u ++ h.way;
        leads = walk_append net s v j u h.way on h.leads;
        fewer = omega (arith, length-append u h.way, length-append u t);
        lighter = omega arith;
        is = walk_length_append laws net u h.way within ∙ ap (λ x. m.plus x (walk_length m net u)) h.is ∙ sym (walk_length_append laws net u t counted);
        zero = h.zero;
      }

  -- a circuit after null makes every walk through it longer
  pub longer : (u c t : List ℕ) → Counted m net (u ++ (c ++ t)) → Before m m.null (walk_length m net c) → Before m (walk_length m net (u ++ t)) (walk_length m net (u ++ (c ++ t)))
  longer u c t counted l =
      let e = weight_append laws net u (c ++ t) in
      let d = weight_append laws net c t in
      let f = weight_append laws net u t in
      let z = laws.null_magnitude in
      let mc = magnitude_walk laws net c (omega arith) in
      let mt = magnitude_walk laws net t (omega arith) in
      let mu = magnitude_walk laws net u (omega arith) in
      let mct = magnitude_walk laws net (c ++ t) (omega arith) in
      let inner : Before m (walk_length m net t) (walk_length m net (c ++ t)) =
      subst (λ x. Before m x (walk_length m net (c ++ t))) (laws.null_right (walk_length m net t))
      (subst (Before m (m.plus (walk_length m net t) m.null)) (sym (walk_length_append laws net c t (omega arith)))
      (laws.left_monotone m.null (walk_length m net c) (walk_length m net t) l (omega arith) (omega arith))) in
      subst (λ x. Before m x (walk_length m net (u ++ (c ++ t)))) (sym (walk_length_append laws net u t (omega arith)))
      (subst (Before m (m.plus (walk_length m net t) (walk_length m net u))) (sym (walk_length_append laws net u (c ++ t) counted))
      (laws.right_monotone (walk_length m net t) (walk_length m net (c ++ t)) (walk_length m net u) inner (omega arith) (omega arith)))

  -- a null circuit changes no length
  pub same_length : (u c t : List ℕ) → Counted m net (u ++ (c ++ t)) → walk_length m net c ≡ m.null → walk_length m net (u ++ t) ≡ walk_length m net (u ++ (c ++ t))
  same_length u c t counted l =
      let e = weight_append laws net u (c ++ t) in
      let d = weight_append laws net c t in
      let f = weight_append laws net u t in
      let inner = walk_length_append laws net c t (omega arith) ∙ ap (m.plus (walk_length m net t)) l ∙ laws.null_right (walk_length m net t) in
      walk_length_append laws net u t (omega arith) ∙ ap (λ x. m.plus x (walk_length m net u)) (sym inner) ∙ sym (walk_length_append laws net u (c ++ t) counted)

  -- a circuit before null makes a walk shorter
  pub round_less : (c t : List ℕ) → Counted m net (c ++ t) → Before m (walk_length m net c) m.null → Before m (walk_length m net (c ++ t)) (walk_length m net t)
  round_less c t counted l =
      let d = weight_append laws net c t in
      let z = laws.null_magnitude in
      let mc = magnitude_walk laws net c (omega arith) in
      let mt = magnitude_walk laws net t (omega arith) in
      let b = laws.left_monotone (walk_length m net c) m.null (walk_length m net t) l (omega arith) (omega arith) in
      subst (λ x. Before m x (walk_length m net t)) (sym (walk_length_append laws net c t counted)) (subst (Before m (m.plus (walk_length m net t) (walk_length m net c))) (laws.null_right (walk_length m net t)) b)

  -- a null circuit can be left out
  pub leave_out : (v a : ℕ) (c t : List ℕ) → Walk net v v (a ∷ c) → Walk net s v t → Counted m net ((a ∷ c) ++ t) → walk_length m net (a ∷ c) ≡ m.null → Shorter m net s v ((a ∷ c) ++ t)
  leave_out v a c t turn h counted e =
      let d = weight_append laws net (a ∷ c) t in
      record {
        way = t;
        leads = h;
        fewer = omega (arith, length-append (a ∷ c) t);
        lighter = omega arith;
        is = sym (walk_length_append laws net (a ∷ c) t counted ∙ ap (m.plus (walk_length m net t)) e ∙ laws.null_right (walk_length m net t));
        zero = record { at = v; way = t; leads = h; way_counted = omega arith; last = a; rest = c; round = turn; counted = omega arith; admitted = e };
      }

  module _ (no_negative : ¬ NegativeCircuit m net s) (k : ℕ) (row : List V) (v j : ℕ) (u : List ℕ) (on : Walk net v j u) where
    step : (i a : ℕ) (c t : List ℕ) → suc i ≤ k → Walk net v v (a ∷ c) → Walk net s v t → Counted m net (u ++ ((a ∷ c) ++ t)) → Covers m k row (walk_length m net (u ++ t))
        → Rank m i row (walk_length m net (u ++ t)) ⊎ Shorter m net s v t → Rank m (suc i) row (walk_length m net (u ++ ((a ∷ c) ++ t))) ⊎ Shorter m net s v ((a ∷ c) ++ t)
    step i a c t le round h counted cov r = go (three laws (walk_length m net (a ∷ c)) m.null) r
      where
        within : Counted m net ((a ∷ c) ++ t)
        within = omega (arith, weight_append laws net u ((a ∷ c) ++ t))

        go : Three m (walk_length m net (a ∷ c)) m.null → Rank m i row (walk_length m net (u ++ t)) ⊎ Shorter m net s v t → Rank m (suc i) row (walk_length m net (u ++ ((a ∷ c) ++ t))) ⊎ Shorter m net s v ((a ∷ c) ++ t)
        go (before l) q = absurd (no_negative (record { at = v; way = t; leads = h; way_counted = omega (arith, weight_append laws net (a ∷ c) t, within); last = a; rest = c; round = round; counted = omega (arith, weight_append laws net (a ∷ c) t, within); admitted = l }))
        go (same e) q = inr (leave_out v a c t round h within e)
        go (after l) (inl q) = inl (rank_up laws i k row (walk_length m net (u ++ t)) (walk_length m net (u ++ ((a ∷ c) ++ t))) le cov (longer u (a ∷ c) t counted l) q)
        go (after l) (inr q) = inr (shorter_on v v (a ∷ c) t round within q)

    -- a walk that came i + 1 times to v has i values of the row before it
    pub chain : (i : ℕ) (t : List ℕ) → i ≤ k → Walk net s v t → Counted m net (u ++ t) → suc i ≤ visits net s t v
        → ((t' : List ℕ) → Walk net s v t' → Counted m net (u ++ t') → length t' < length t → Covers m k row (walk_length m net (u ++ t')))
        → Rank m i row (walk_length m net (u ++ t)) ⊎ Shorter m net s v t
    chain zero t le h counted many ih = inl tt
    chain (suc i) [] le h counted many ih = absurd (omega (arith, one_most s v))
    chain (suc i) (a ∷ t) le h counted many ih =
        let r = visit net s t (net.start a) v (suc i) h.2 (omega arith) (omega (arith, one_most (net.end a) v)) in
        let counted' : Counted m net (u ++ ((a ∷ r.then) ++ r.first)) = subst (λ l. Counted m net (u ++ (a ∷ l))) r.is counted in
        let w₁ = weight_append laws net u ((a ∷ r.then) ++ r.first) in
        let w₂ = weight_append laws net (a ∷ r.then) r.first in
        let w₃ = weight_append laws net u r.first in
        let within : Counted m net (u ++ r.first) = omega arith in
        let shorter : length r.first < length (a ∷ t) = omega (arith, ap length r.is, length-append r.then r.first) in
        subst (λ l. Rank m (suc i) row (walk_length m net (u ++ (a ∷ l))) ⊎ Shorter m net s v (a ∷ l)) (sym r.is)
        (step i a r.then r.first le (h.0, h.1, r.on) r.leads counted' (ih r.first r.leads within shorter)
        (chain i r.first (omega arith) r.leads within r.often (λ t' h' f' l. ih t' h' f' (omega arith))))

module _ {V : Type 0} {m : Algebra V} (laws : Laws m) (net : Network V) (formed : WellFormed m net) (s : ℕ) (low : 1 ≤ s) (high : s ≤ net.nodes) (no_negative : ¬ NegativeCircuit m net s) (k : ℕ) (table : Table V)
    (short : (j : ℕ) (w : List ℕ) → Walk net s j w → Counted m net w → length w < net.nodes * k → Covers m k (table j) (walk_length m net w)) where
  -- one round of the induction on the number of arcs
  round : (n j : ℕ) (w : List ℕ) → length w ≤ n → Walk net s j w → Counted m net w
      → ((w' : List ℕ) → Walk net s j w' → Counted m net w' → length w' < n → Covers m k (table j) (walk_length m net w')) → Covers m k (table j) (walk_length m net w)
  round n j w few h counted ih = go (dec_lt (length w) (net.nodes * k))
    where
      split : (v : ℕ) → Visit net s w j v (suc k) → Covers m k (table j) (walk_length m net w)
      split v r = subst (λ l. Covers m k (table j) (walk_length m net l)) (sym r.is) (end (chain laws net s no_negative k (table j) v j r.then r.on k r.first (omega arith) r.leads within r.often less))
        where
          within : Counted m net (r.then ++ r.first)
          within = subst (Counted m net) r.is counted

          size : length w ≡ length r.then + length r.first
          size = ap length r.is ∙ length-append r.then r.first

          less : (t' : List ℕ) → Walk net s v t' → Counted m net (r.then ++ t') → length t' < length r.first → Covers m k (table j) (walk_length m net (r.then ++ t'))
          less t' h' f' l = ih (r.then ++ t') (walk_append net s v j r.then t' r.on h') f' (omega (arith, length-append r.then t', size))

          end : Rank m k (table j) (walk_length m net (r.then ++ r.first)) ⊎ Shorter m net s v r.first → Covers m k (table j) (walk_length m net (r.then ++ r.first))
          end (inl q) = rank_covers laws k (table j) (walk_length m net (r.then ++ r.first)) q
          end (inr q) =
              let p = shorter_on laws net s v j r.then r.first r.on within q in
              subst (Covers m k (table j)) p.is (ih p.way p.leads (omega (arith, p.lighter, within)) (omega (arith, p.fewer, size, length-append r.then r.first)))

      go : Dec (length w < net.nodes * k) → Covers m k (table j) (walk_length m net w)
      go (yes l) = short j w h counted l
      go (no l) =
          let f = crowded {m = m} net formed s low high w j k h (omega arith) in
          split f.hole (visit net s w j f.hole (suc k) h (omega arith) f.many)

  covered_within : (n j : ℕ) (w : List ℕ) → length w ≤ n → Walk net s j w → Counted m net w → Covers m k (table j) (walk_length m net w)
  covered_within zero j w few h counted = round zero j w few h counted (λ w' h' f' l. absurd (omega arith))
  covered_within (suc n) j w few h counted = round (suc n) j w few h counted (λ w' h' f' l. covered_within n j w' (omega arith) h' f')

  -- where no circuit before null is reached, a table that covers the walks of fewer than n × k arcs covers all
  pub covered : (j : ℕ) (w : List ℕ) → Walk net s j w → Counted m net w → Covers m k (table j) (walk_length m net w)
  covered j w h counted = covered_within (length w) j w (omega arith) h counted
