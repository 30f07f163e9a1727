-- Settled rows, refusals and the number of passes.
use Rattle.std.proofs.Common.{◌≡◌, ℕ, zero, suc, ◌+◌, ◌*◌, ◌<◌, ◌≤◌, List, [], ◌∷◌, take, sym, refl, ◌∙◌, subst, inl, inr, mul-le-mul, arith, length-take}
use native.Mathlib.Decide.{dec_le, dec_lt}
use Rattle.measure.specs.Algebra.{Algebra, Laws, Before, Joinable}
use Rattle.walks.specs.Networks.{Network, Open}
use Rattle.walks.specs.Walks.{Walk, walk_length, Counted}
use Rattle.walks.specs.Circuits.{NegativeCircuit}
use Rattle.walks.specs.Rows.{Table, In, Covers, FirstOf}
use Rattle.walks.specs.Method.{rows}
use Rattle.walks.specs.Solves.{last_pass}
use Rattle.walks.specs.Runs.{Run, Unchanged, Settles, NeverSettles}
use Rattle.walks.specs.Theorems.{Within, LengthOf, ExactRow, SettledExact, RefusedExactly, FewPasses, JoinsPresent, RowsBegin, SolvesBegin, FirstsRest}
use Rattle.walks.proofs.Orders.{never, before_not}
use Rattle.walks.proofs.Rows.{unique}
use Rattle.walks.proofs.Placing.{ascending_take, in_take}
use Rattle.walks.proofs.Lengths.{weight_small, magnitude_walk}
use Rattle.walks.proofs.Runs.{Walked, Sound}
use Rattle.walks.proofs.Coverage.{Small, rows_ascending, rows_short, rows_sound, rows_cover, fixed_cover}
use Rattle.walks.proofs.Chains.{covered}
use Rattle.walks.proofs.Search.{dec_negative}
use Rattle.walks.proofs.Settling.{rest_none, comes_to_rest}
use Rattle.walks.proofs.Method.{rows_run}
use Rattle.walks.proofs.Ends.{settled_is, refused_is, is_refused}

none_in : {V : Type 0} (row : List V) → ((x : V) → In x row → ⊥) → row ≡ []
none_in [] h = refl
none_in (x ∷ xs) h = absurd (h x (inl refl))

module _ {V : Type 0} {m : Algebra V} {net : Network V} {k s : ℕ} (laws : Laws m) (g : Within m net (suc k) s) where
  abbrev R : ℕ → Table V
  R = rows m net (suc k) s

  pub run : Run m net (suc k) s (rows m net (suc k) s)
  run = rows_run laws net (suc k) s g.formed g.k_low

  product : net.nodes * suc k ≤ 1000 * 20
  product = mul-le-mul g.nodes_high g.k_high

  -- the passes of a solve bring no absent join
  pub small : (p : ℕ) → p ≤ last_pass m net (suc k) s + 1 → Small net p
  small p h =
      let a = product in
      let b : p * net.nodes ≤ 40003 * 1000 = let c : p ≤ 40003 = omega arith in mul-le-mul c g.nodes_high in
      omega arith

  pub sound : (p : ℕ) → Sound m net s (p * net.nodes) (rows m net (suc k) s p)
  sound = rows_sound laws net g.formed (suc k) s R run

  inside : (p j : ℕ) (x : V) → Walked m net s p j x → (1 ≤ j) × (j ≤ net.nodes)
  inside p j x h = go h.walk h.leads
    where
      go : (w : List ℕ) → Walk net s j w → (1 ≤ j) × (j ≤ net.nodes)
      go [] e = (omega (arith, g.s_low), omega (arith, g.s_high))
      go (a ∷ w) e = let p = g.formed a e.0 in (omega (arith, p.end_low, e.1), omega (arith, p.end_high, e.1))

  outside : (p j : ℕ) → ¬ ((1 ≤ j) × (j ≤ net.nodes)) → R p j ≡ []
  outside p j h = none_in (R p j) (λ x i. h (inside (p * net.nodes) j x (sound p j x i)))

  everywhere : (p : ℕ) → Unchanged net R (suc p) → (j : ℕ) → R (suc p) j ≡ R p j
  everywhere p quiet j = go (dec_le 1 j) (dec_le j net.nodes)
    where
      go : Dec (1 ≤ j) → Dec (j ≤ net.nodes) → R (suc p) j ≡ R p j
      go (yes l) (yes h) = quiet j l h
      go (no l) q = let out : ¬ ((1 ≤ j) × (j ≤ net.nodes)) = λ z. l z.0 in outside (suc p) j out ∙ sym (outside p j out)
      go (yes l) (no h) = let out : ¬ ((1 ≤ j) × (j ≤ net.nodes)) = λ z. h z.1 in outside (suc p) j out ∙ sym (outside p j out)

  -- a pass from the second on that changes nothing
  module _ (q : ℕ) (le : suc (suc q) ≤ last_pass m net (suc k) s) (quiet : Unchanged net R (suc (suc q))) where
    pub none_reached : ¬ NegativeCircuit m net s
    none_reached = rest_none laws net g.formed k s g.s_low g.s_high R run q (small (suc (suc (suc q))) (omega arith)) (everywhere (suc q) quiet)

    pub complete : (j : ℕ) (w : List ℕ) → Walk net s j w → Counted m net w → Covers m (suc k) (rows m net (suc k) s (suc (suc q)) j) (walk_length m net w)
    complete = fixed_cover laws net g.formed (suc k) s R run q (small (suc (suc q)) (omega arith)) (everywhere (suc q) quiet)

    exact : (j : ℕ) → ExactRow m net (suc k) s j (R (suc (suc q)) j)
    exact j = record {
      ascending = rows_ascending laws net g.formed (suc k) s R run (suc (suc q)) j;
      short = rows_short laws net g.formed (suc k) s R run (suc (suc q)) j;
      from = λ x i. length_of x (sound (suc (suc q)) j x i);
      covers = λ x h. subst (Covers m (suc k) (R (suc (suc q)) j)) h.is (complete j h.walk h.leads h.counted);
    }
      where
        length_of : (x : V) → Walked m net s (suc (suc q) * net.nodes) j x → LengthOf m net s j x
        length_of x h =
            let w = weight_small laws net s j h.walk g.formed h.leads in
            let f = h.few in
            let z = small (suc (suc q)) (omega arith) in
            record { walk = h.walk; leads = h.leads; counted = omega arith; is = h.is }

  -- without a circuit before null pass N × K + 1 changes nothing
  still_at : ¬ NegativeCircuit m net s → (q : ℕ) → net.nodes * suc k ≡ suc q → Unchanged net R (suc (suc q))
  still_at good q e j l h = comes_to_rest laws net g.formed k s g.s_low g.s_high R run good q e (small (suc (suc q)) (omega arith)) j

  full : (q : ℕ) × (net.nodes * suc k ≡ suc q)
  full = go (net.nodes * suc k) (let c : 1 ≤ net.nodes = omega (arith, g.s_low, g.s_high) in mul-le-mul c g.k_low)
    where
      go : (n : ℕ) → 1 * 1 ≤ n → (q : ℕ) × (n ≡ suc q)
      go zero h = absurd (omega arith)
      go (suc n) h = (n, refl)

  pub settled_exact : (p : ℕ) → Settles m net (suc k) s R p → (j : ℕ) → ExactRow m net (suc k) s j (R p j)
  settled_exact zero h = absurd (omega (arith, h.second))
  settled_exact (suc zero) h = absurd (omega (arith, h.second))
  settled_exact (suc (suc q)) h = exact q h.in_time h.unchanged

  pub settled_none : (p : ℕ) → Settles m net (suc k) s R p → ¬ NegativeCircuit m net s
  settled_none zero h = absurd (omega (arith, h.second))
  settled_none (suc zero) h = absurd (omega (arith, h.second))
  settled_none (suc (suc q)) h = none_reached q h.in_time h.unchanged

  pub settled_few : (p : ℕ) → Settles m net (suc k) s R p → p ≤ net.nodes * suc k + 1
  settled_few p h = go (dec_lt (suc (suc full.0)) p)
    where
      go : Dec (suc (suc full.0) < p) → p ≤ net.nodes * suc k + 1
      go (yes l) = absurd (h.first (suc (suc full.0)) (omega arith) l (still_at (settled_none p h) full.0 full.1))
      go (no l) = omega (arith, full.1)

  pub never_reached : NeverSettles m net (suc k) s R → NegativeCircuit m net s
  never_reached h = go (dec_negative laws net g.formed s g.s_low g.s_high (omega (arith, g.nodes_high)))
    where
      go : Dec (NegativeCircuit m net s) → NegativeCircuit m net s
      go (yes b) = b
      go (no b) = absurd (h (suc (suc full.0)) (omega arith) (omega (arith, full.1)) (still_at b full.0 full.1))

  pub reached_never : NegativeCircuit m net s → NeverSettles m net (suc k) s R
  reached_never b zero l h u = absurd (omega arith)
  reached_never b (suc zero) l h u = absurd (omega arith)
  reached_never b (suc (suc q)) l h u = none_reached q h u b

  pub joinable : (p a : ℕ) (x : V) → p ≤ last_pass m net (suc k) s → Open net a → In x (R p (net.start a)) → Joinable m x (net.arc_length a)
  joinable p a x le o i =
      let h = sound p (net.start a) x i in
      let r = g.formed a o in
      let w = weight_small laws net s (net.start a) h.walk g.formed h.leads in
      let f = h.few in
      let z = small p (omega arith) in
      let n = magnitude_walk laws net h.walk (omega arith) in
      subst (λ v. Joinable m v (net.arc_length a)) h.is (omega arith)

  covers_first : (row : List V) (x : V) → Covers m (suc k) row x → Covers m 1 row x
  covers_first [] x c = c
  covers_first (y ∷ ys) x (inl e) = inl e
  covers_first (y ∷ ys) x (inr h) = inr (h.0, tt)

  -- without a circuit before null no walk is before the first length of its node, from pass N on
  firsts_covered : ¬ NegativeCircuit m net s → (q : ℕ) → net.nodes ≤ suc q → suc q ≤ last_pass m net (suc k) s → (j : ℕ) (w : List ℕ) → Walk net s j w → Counted m net w → Covers m 1 (R (suc q) j) (walk_length m net w)
  firsts_covered good q enough le =
      covered laws net g.formed s g.s_low g.s_high good 1 (R (suc q))
      (λ j w h counted l. covers_first (R (suc q) j) (walk_length m net w) (rows_cover laws net g.formed (suc k) s R run q (small (suc q) (omega arith)) j w h counted (omega arith)))

  pub lagging_reached : (p a : ℕ) (x y : V) (xs ys : List V) → net.nodes ≤ p → p ≤ last_pass m net (suc k) s → Open net a → R p (net.start a) ≡ x ∷ xs → R p (net.end a) ≡ y ∷ ys
      → Before m (m.plus x (net.arc_length a)) y → NegativeCircuit m net s
  lagging_reached zero a x y xs ys enough le o e f lag = absurd (omega (arith, g.s_low, g.s_high))
  lagging_reached (suc q) a x y xs ys enough le o e f lag = go (dec_negative laws net g.formed s g.s_low g.s_high (omega (arith, g.nodes_high)))
    where
      from : Walked m net s (suc q * net.nodes) (net.start a) x
      from = sound (suc q) (net.start a) x (subst (In x) (sym e) (inl refl))

      light : Counted m net (a ∷ from.walk)
      light =
          let r = g.formed a o in
          let w = weight_small laws net s (net.start a) from.walk g.formed from.leads in
          let b = from.few in
          let z = small (suc q) (omega arith) in
          omega arith

      over : Covers m 1 (y ∷ ys) (m.plus x (net.arc_length a)) → NegativeCircuit m net s
      over (inl same) = never laws y (subst (λ v. Before m v y) same lag)
      over (inr c) = before_not laws y (m.plus x (net.arc_length a)) c.0 lag

      go : Dec (NegativeCircuit m net s) → NegativeCircuit m net s
      go (yes b) = b
      go (no b) =
          let c = firsts_covered b q enough le (net.end a) (a ∷ from.walk) (o, refl, from.leads) light in
          over (subst (λ row. Covers m 1 row (m.plus x (net.arc_length a))) f (subst (λ v. Covers m 1 (R (suc q) (net.end a)) (m.plus v (net.arc_length a))) from.is c))

module _ {V : Type 0} {m : Algebra V} (laws : Laws m) where
  pub exactness : SettledExact m
  exactness net zero s g p e = absurd (omega (arith, g.k_low))
  exactness net (suc k) s g p e = settled_exact laws g p (settled_is laws net (suc k) s p e)

  pub refusals : RefusedExactly m
  refusals net zero s g = absurd (omega (arith, g.k_low))
  refusals net (suc k) s g = (λ e. never_reached laws g (refused_is laws net (suc k) s e), λ b. is_refused laws net (suc k) s (reached_never laws g b))

  pub passes : FewPasses m
  passes net zero s g p e = absurd (omega (arith, g.k_low))
  passes net (suc k) s g p e =
      let h = settled_is laws net (suc k) s p e in
      let few = settled_few laws g p h in
      let some : 1 * 1 ≤ net.nodes * suc k = let c : 1 ≤ net.nodes = omega (arith, g.s_low, g.s_high) in mul-le-mul c g.k_low in
      (h.second, few, omega arith)

  pub joins : JoinsPresent m
  joins net zero s g p a x le o i = absurd (omega (arith, g.k_low))
  joins net (suc k) s g p a x le o i = joinable laws g p a x le o i

  -- a row that covers the first l covers the first k
  covers_less : (k l : ℕ) (row : List V) (x : V) → k ≤ l → Covers m l row x → Covers m k (take k row) x
  covers_less zero l row x le c = tt
  covers_less (suc k) zero row x le c = absurd (omega arith)
  covers_less (suc k) (suc l) [] x le c = c
  covers_less (suc k) (suc l) (y ∷ ys) x le (inl e) = inl e
  covers_less (suc k) (suc l) (y ∷ ys) x le (inr h) = inr (h.0, covers_less k l ys x (omega arith) h.1)

  pub beginning_of : (P : V → Type 0) (k l : ℕ) (row more : List V) → k ≤ l → FirstOf m k P row → FirstOf m l P more → row ≡ take k more
  beginning_of P k l row more le h r =
      unique laws k row (take k more) h.ascending (ascending_take m k more r.ascending) h.short (omega (arith, length-take k more))
      (λ v i. covers_less k l more v le (r.covers v (h.from v i)))
      (λ v i. h.covers v (r.from v (in_take k more v i)))

  pub beginnings : RowsBegin m × SolvesBegin m
  beginnings = (
    λ net k l s j row more. beginning_of (LengthOf m net s j) k l row more,
    λ net k l s p q j g g' le e e'. beginning_of (LengthOf m net s j) k l (rows m net k s p j) (rows m net l s q j) le (exactness net k s g p e j) (exactness net l s g' q e' j),
  )

  pub firsts : FirstsRest m
  firsts net zero s g p a x y xs ys enough le o e f lag = absurd (omega (arith, g.k_low))
  firsts net (suc k) s g p a x y xs ys enough le o e f lag = (refusals net (suc k) s g).1 (lagging_reached laws g p a x y xs ys enough le o e f lag)
