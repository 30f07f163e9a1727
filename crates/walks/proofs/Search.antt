-- Whether a circuit before null is reached can be decided.
use Rattle.std.proofs.Common.{◌≡◌, ℕ, zero, suc, ◌*◌, ◌^◌, ◌≤◌, Bool, true, false, List, [], ◌∷◌, length, Ordering, Less, Equal, Greater, sym, refl, subst, arith}
use native.Mathlib.Decide.{dec_le, ℕ_discrete}
use Rattle.measure.specs.Algebra.{Algebra, Laws, Before}
use Rattle.walks.specs.Networks.{Network, Open, WellFormed}
use Rattle.walks.specs.Walks.{Walk, walk_length}
use Rattle.walks.specs.Circuits.{NegativeCircuit}
use Rattle.walks.proofs.Circuits.{NearNegative, negative_near, near_negative}

record Below (P : ℕ → Type 0) (n : ℕ) : Type 0 where
  value : ℕ
  small : value ≤ n
  holds : P value

dec_below : (P : ℕ → Type 0) → ((a : ℕ) → Dec (P a)) → (n : ℕ) → Dec (Below P n)
dec_below P d zero = go (d 0)
  where
    go : Dec (P 0) → Dec (Below P 0)
    go (yes h) = yes (record { value = 0; small = omega arith; holds = h })
    go (no h) = no (λ b. h (subst P (omega (arith, b.small)) b.holds))
dec_below P d (suc n) = go (d (suc n)) (dec_below P d n)
  where
    go : Dec (P (suc n)) → Dec (Below P n) → Dec (Below P (suc n))
    go (yes h) r = yes (record { value = suc n; small = omega arith; holds = h })
    go (no h) (yes r) = yes (record { value = r.value; small = omega (arith, r.small); holds = r.holds })
    go (no h) (no r) = no (λ b. r (record { value = b.value; small = less b (ℕ_discrete b.value (suc n)); holds = b.holds }))
      where
        less : (b : Below P (suc n)) → Dec (b.value ≡ suc n) → b.value ≤ n
        less b (yes e) = absurd (h (subst P e b.holds))
        less b (no e) = omega (arith, b.small)

abbrev Bounded : ℕ → List ℕ → Type 0
Bounded n [] = Unit {0}
Bounded n (a ∷ l) = (a ≤ n) × Bounded n l

record Listed (n k : ℕ) (P : List ℕ → Type 0) : Type 0 where
  list : List ℕ
  few : length list ≤ k
  small : Bounded n list
  holds : P list

dec_listed : (n k : ℕ) (P : List ℕ → Type 0) → ((l : List ℕ) → Dec (P l)) → Dec (Listed n k P)
dec_listed n zero P d = go (d [])
  where
    out : (l : List ℕ) → length l ≤ 0 → P l → P []
    out [] few h = h
    out (a ∷ l) few h = absurd (omega arith)

    go : Dec (P []) → Dec (Listed n zero P)
    go (yes h) = yes (record { list = []; few = omega arith; small = tt; holds = h })
    go (no h) = no (λ r. h (out r.list r.few r.holds))
dec_listed n (suc k) P d = go (d []) (dec_below (λ a. Listed n k (λ l. P (a ∷ l))) (λ a. dec_listed n k (λ l. P (a ∷ l)) (λ l. d (a ∷ l))) n)
  where
    go : Dec (P []) → Dec (Below (λ a. Listed n k (λ l. P (a ∷ l))) n) → Dec (Listed n (suc k) P)
    go (yes h) r = yes (record { list = []; few = omega arith; small = tt; holds = h })
    go (no h) (yes r) = yes (record { list = r.value ∷ r.holds.list; few = omega (arith, r.holds.few); small = (r.small, r.holds.small); holds = r.holds.holds })
    go (no h) (no r) = no (λ q. out q.list q.few q.small q.holds)
      where
        out : (l : List ℕ) → length l ≤ suc k → Bounded n l → P l → ⊥
        out [] few small p = h p
        out (a ∷ l) few small p = r (record { value = a; small = small.0; holds = record { list = l; few = omega arith; small = small.1; holds = p } })

dec_true : (b : Bool) → Dec (b ≡ true)
dec_true true = yes refl
dec_true false = no (λ e. let z : ◌≡◌ {A = ℕ} 0 1 = cc in omega arith)

module _ {V : Type 0} (m : Algebra V) where
  pub dec_before : (a b : V) → Dec (Before m a b)
  dec_before a b = go (m.compare a b)
    where
      go : (o : Ordering) → Dec (o ≡ Less)
      go Less = yes refl
      go Equal = no (λ e. let z : ◌≡◌ {A = ℕ} 0 1 = cc in omega arith)
      go Greater = no (λ e. let z : ◌≡◌ {A = ℕ} 0 1 = cc in omega arith)

module _ {V : Type 0} (net : Network V) where
  pub dec_open : (a : ℕ) → Dec (Open net a)
  dec_open a = go (dec_le 1 a) (dec_le a net.arcs) (dec_true (net.is_open a))
    where
      go : Dec (1 ≤ a) → Dec (a ≤ net.arcs) → Dec (net.is_open a ≡ true) → Dec (Open net a)
      go (no p) q r = no (λ o. p o.low)
      go (yes p) (no q) r = no (λ o. q o.high)
      go (yes p) (yes q) (no r) = no (λ o. r o.marked)
      go (yes p) (yes q) (yes r) = yes (record { low = p; high = q; marked = r })

  pub dec_walk : (s j : ℕ) (w : List ℕ) → Dec (Walk net s j w)
  dec_walk s j [] = ℕ_discrete s j
  dec_walk s j (a ∷ w) = go (dec_open a) (ℕ_discrete (net.end a) j) (dec_walk s (net.start a) w)
    where
      go : Dec (Open net a) → Dec (net.end a ≡ j) → Dec (Walk net s (net.start a) w) → Dec (Walk net s j (a ∷ w))
      go (no p) q r = no (λ o. p o.0)
      go (yes p) (no q) r = no (λ o. q o.1)
      go (yes p) (yes q) (no r) = no (λ o. r o.2)
      go (yes p) (yes q) (yes r) = yes (p, q, r)

  bounded : (s j : ℕ) (w : List ℕ) → Walk net s j w → Bounded net.arcs w
  bounded s j [] h = tt
  bounded s j (a ∷ w) h = (h.0.high, bounded s (net.start a) w h.2)

module _ {V : Type 0} (m : Algebra V) (net : Network V) (s : ℕ) where
  abbrev Turn : List ℕ → Type 0
  Turn [] = ⊥
  Turn (a ∷ c) = Walk net (net.end a) (net.end a) (a ∷ c) × Before m (walk_length m net (a ∷ c)) m.null × Listed net.arcs net.nodes (λ w. Walk net s (net.end a) w)

  dec_turn : (c : List ℕ) → Dec (Turn c)
  dec_turn [] = no (λ z. z)
  dec_turn (a ∷ c) = go (dec_walk net (net.end a) (net.end a) (a ∷ c)) (dec_before m (walk_length m net (a ∷ c)) m.null) (dec_listed net.arcs net.nodes (λ w. Walk net s (net.end a) w) (dec_walk net s (net.end a)))
    where
      go : Dec (Walk net (net.end a) (net.end a) (a ∷ c)) → Dec (Before m (walk_length m net (a ∷ c)) m.null) → Dec (Listed net.arcs net.nodes (λ w. Walk net s (net.end a) w)) → Dec (Turn (a ∷ c))
      go (no p) q r = no (λ o. p o.0)
      go (yes p) (no q) r = no (λ o. q o.1)
      go (yes p) (yes q) (no r) = no (λ o. r o.2)
      go (yes p) (yes q) (yes r) = yes (p, q, r)

  to_turn : NearNegative m net s → Listed net.arcs net.nodes Turn
  to_turn z =
      let e = z.round.1 in
      record {
        list = z.last ∷ z.rest;
        few = z.few;
        small = bounded net z.at z.at (z.last ∷ z.rest) z.round;
        holds = (
          subst (λ v. Walk net v v (z.last ∷ z.rest)) (sym e) z.round,
          z.less,
          record { list = z.way; few = z.near; small = bounded net s z.at z.way z.leads; holds = subst (λ v. Walk net s v z.way) (sym e) z.leads },
        );
      }

  from_turn : (c : List ℕ) → length c ≤ net.nodes → Turn c → NearNegative m net s
  from_turn [] few h = absurd h
  from_turn (a ∷ c) few h = record { at = net.end a; way = h.2.list; leads = h.2.holds; near = h.2.few; last = a; rest = c; round = h.0; few = few; less = h.1 }

  pub dec_negative_near : Dec (NearNegative m net s)
  dec_negative_near = go (dec_listed net.arcs net.nodes Turn dec_turn)
    where
      go : Dec (Listed net.arcs net.nodes Turn) → Dec (NearNegative m net s)
      go (yes r) = yes (from_turn r.list r.few r.holds)
      go (no r) = no (λ z. r (to_turn z))

module _ {V : Type 0} {m : Algebra V} (laws : Laws m) (net : Network V) (formed : WellFormed m net) (s : ℕ) (low : 1 ≤ s) (high : s ≤ net.nodes) (small : net.nodes * 10 ^ 9 ≤ 2 ^ 62) where
  pub dec_negative : Dec (NegativeCircuit m net s)
  dec_negative = go (dec_negative_near m net s)
    where
      go : Dec (NearNegative m net s) → Dec (NegativeCircuit m net s)
      go (yes z) = yes (near_negative laws net formed s low high small z)
      go (no z) = no (λ b. z (negative_near laws net formed s low high b))
