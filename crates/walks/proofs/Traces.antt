-- What the walks of a trace are like.
use Rattle.std.proofs.Common.{◌≡◌, ℕ, zero, suc, ◌+◌, ◌*◌, ◌^◌, ◌<◌, ◌≤◌, ◌⊎◌, List, [], ◌∷◌, ◌++◌, length, sym, refl, subst, inl, inr, arith}
use native.Mathlib.Decide.{dec_lt}
use Rattle.measure.specs.Algebra.{Algebra, Laws, Before, Joinable}
use Rattle.walks.specs.Networks.{Network, Open, WellFormed}
use Rattle.walks.specs.Walks.{Walk, walk_length, Counted}
use Rattle.walks.specs.Circuits.{NegativeCircuit, NullCircuit}
use Rattle.walks.specs.Rows.{In, Ascending, Covers, Table}
use Rattle.walks.proofs.Orders.{Three, before, same, after, three, never}
use Rattle.walks.proofs.Rows.{Rank, above_in, head_before, tail_covers}
use Rattle.walks.proofs.Lengths.{walk_append, magnitude_walk, weight_small}
use Rattle.walks.proofs.Runs.{Walked, Sound}
use Rattle.walks.proofs.Visits.{Visit, visit, crowded}
use Rattle.walks.proofs.Chains.{Shorter, chain}

module _ {V : Type 0} {m : Algebra V} (laws : Laws m) where
  covers_cases : (k : ℕ) (row : List V) (x : V) → Covers m k row x → In x row ⊎ Rank m k row x
  covers_cases zero row x c = inr tt
  covers_cases (suc k) [] x c = absurd c
  covers_cases (suc k) (y ∷ ys) x (inl e) = inl (inl e)
  covers_cases (suc k) (y ∷ ys) x (inr c) = go (covers_cases k ys x c.1)
    where
      go : In x ys ⊎ Rank m k ys x → In x (y ∷ ys) ⊎ Rank m (suc k) (y ∷ ys) x
      go (inl i) = inl (inr i)
      go (inr r) = inr (c.0, r)

  rank_not_in : (k : ℕ) (row : List V) (x : V) → length row ≤ k → Rank m k row x → In x row → ⊥
  rank_not_in k [] x short r i = i
  rank_not_in zero (y ∷ ys) x short r i = omega arith
  rank_not_in (suc k) (y ∷ ys) x short r (inl e) = never laws x (subst (λ v. Before m v x) (sym e) r.0)
  rank_not_in (suc k) (y ∷ ys) x short r (inr i) = rank_not_in k ys x (omega arith) r.1 i

  -- what f makes of k values of a row before x are k values of a row that covers them
  module _ (G : V → Type 0) (f : V → V) (mono : (a b : V) → G a → G b → Before m a b → Before m (f a) (f b)) where
    carry_rank : (k : ℕ) (row new : List V) (x : V) → Ascending m row → ((y : V) → In y row → G y) → G x → ((y : V) → In y row → Covers m k new (f y)) → Rank m k row x → Rank m k new (f x)
    carry_rank zero row new x up good gx all c = tt
    carry_rank (suc k) [] new x up good gx all c = absurd c
    carry_rank (suc k) (y ∷ ys) [] x up good gx all c = all y (inl refl)
    carry_rank (suc k) (y ∷ ys) (z ∷ zs) x up good gx all c =
        let gy = good y (inl refl) in
        let here = all y (inl refl) in (
          head_before laws k z zs (f y) (f x) here (mono y x gy gx c.0),
          carry_rank k ys zs x up.1 (λ v i. good v (inr i)) gx
              (λ v i. tail_covers laws k z zs (f v) (head_before laws k z zs (f y) (f v) here (mono y v gy (good v (inr i)) (above_in laws y v ys up.0 i))) (all v (inr i)))
              c.1,
        )

  -- equal sums have equal parts
  pub cancel : (a b c : V) → Joinable m a c → Joinable m b c → m.plus a c ≡ m.plus b c → a ≡ b
  cancel a b c fa fb e = go (three laws a b)
    where
      go : Three m a b → a ≡ b
      go (before l) = never laws (m.plus b c) (subst (λ x. Before m x (m.plus b c)) e (laws.right_monotone a b c l fa fb))
      go (same h) = h
      go (after l) = never laws (m.plus b c) (subst (Before m (m.plus b c)) e (laws.right_monotone b a c l fb fa))

module _ {V : Type 0} {m : Algebra V} (laws : Laws m) (net : Network V) (formed : WellFormed m net) (s k b : ℕ) (low : 1 ≤ s) (high : s ≤ net.nodes) (table : Table V)
    (up : (j : ℕ) → Ascending m (table j)) (short : (j : ℕ) → length (table j) ≤ k) (small : b * 10 ^ 9 + 10 ^ 9 ≤ 2 ^ 62) (sound : Sound m net s b table)
    (all : (j : ℕ) (w : List ℕ) → Walk net s j w → Counted m net w → Covers m k (table j) (walk_length m net w)) where
  good : (a : ℕ) → Open net a → (y : V) → Walked m net s b (net.start a) y → Joinable m y (net.arc_length a)
  good a o y h =
      let p = formed a o in
      let q = weight_small laws net s (net.start a) h.walk formed h.leads in
      let f = h.few in
      let r = magnitude_walk laws net h.walk (omega arith) in
      subst (λ v. Joinable m v (net.arc_length a)) h.is (omega arith)

  -- a part of a walk whose length is in its row has its length in its row
  pub part_in : (a : ℕ) (w : List ℕ) → Open net a → Walk net s (net.start a) w → Counted m net (a ∷ w) → In (walk_length m net (a ∷ w)) (table (net.end a)) → In (walk_length m net w) (table (net.start a))
  part_in a w o h counted i = go (covers_cases laws k (table (net.start a)) (walk_length m net w) (all (net.start a) w h (omega arith)))
    where
      carried : (y : V) → Walked m net s b (net.start a) y → Covers m k (table (net.end a)) (m.plus y (net.arc_length a))
      carried y v =
          let p = formed a o in
          let q = weight_small laws net s (net.start a) v.walk formed v.leads in
          let f = v.few in
          subst (λ z. Covers m k (table (net.end a)) (m.plus z (net.arc_length a))) v.is (all (net.end a) (a ∷ v.walk) (o, refl, v.leads) (omega arith))

      go : In (walk_length m net w) (table (net.start a)) ⊎ Rank m k (table (net.start a)) (walk_length m net w) → In (walk_length m net w) (table (net.start a))
      go (inl q) = q
      go (inr r) =
          absurd (rank_not_in laws k (table (net.end a)) (walk_length m net (a ∷ w)) (short (net.end a))
          (carry_rank laws (λ v. Joinable m v (net.arc_length a)) (λ v. m.plus v (net.arc_length a)) (λ x y p q l. laws.right_monotone x y (net.arc_length a) l p q)
          k (table (net.start a)) (table (net.end a)) (walk_length m net w) (up (net.start a))
          (λ y j. good a o y (sound (net.start a) y j)) (omega (arith, magnitude_walk laws net w (omega arith)))
          (λ y j. carried y (sound (net.start a) y j)) r)
          i)

  -- a walk whose length is in its row has fewer than n × k arcs, unless a null circuit is reached
  pub few_arcs : ¬ NegativeCircuit m net s → ¬ NullCircuit m net s → (j : ℕ) (w : List ℕ) → Walk net s j w → Counted m net w → In (walk_length m net w) (table j) → length w < net.nodes * k
  few_arcs no_negative no_null j w h counted i = go (dec_lt (length w) (net.nodes * k))
    where
      split : (v : ℕ) → Visit net s w j v (suc k) → ⊥
      split v r = end (chain laws net s no_negative k (table j) v j r.then r.on k r.first (omega arith) r.leads within r.often (λ t' h' f' l. all j (r.then ++ t') (walk_append net s v j r.then t' r.on h') f'))
        where
          within : Counted m net (r.then ++ r.first)
          within = subst (Counted m net) r.is counted

          end : Rank m k (table j) (walk_length m net (r.then ++ r.first)) ⊎ Shorter m net s v r.first → ⊥
          end (inl q) = rank_not_in laws k (table j) (walk_length m net (r.then ++ r.first)) (short j) q (subst (λ l. In (walk_length m net l) (table j)) r.is i)
          end (inr q) = no_null q.zero

      go : Dec (length w < net.nodes * k) → length w < net.nodes * k
      go (yes l) = l
      go (no l) =
          let f = crowded {m = m} net formed s low high w j k h (omega arith) in
          absurd (split f.hole (visit net s w j f.hole (suc k) h (omega arith) f.many))
