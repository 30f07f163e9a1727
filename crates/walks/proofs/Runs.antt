-- What the passes of a run give.
use Rattle.std.proofs.Common.{◌≡◌, ℕ, zero, suc, ◌+◌, ◌*◌, ◌^◌, ◌≤◌, Bool, true, false, not, ◌⊎◌, List, ◌∷◌, length, sym, refl, ap, ◌∙◌, subst, inl, inr, arith}
use native.Mathlib.Decide.{dec_lt}
use Rattle.measure.specs.Algebra.{Algebra, Laws, Joinable}
use Rattle.walks.specs.Networks.{Network, Open, WellFormed}
use Rattle.walks.specs.Walks.{Walk, walk_length, Counted}
use Rattle.walks.specs.Rows.{In, Ascending, Covers, Table}
use Rattle.walks.specs.Runs.{Takes, Offered, Pass}
use Rattle.walks.proofs.Rows.{carry}
use Rattle.walks.proofs.Lengths.{magnitude_walk, weight_small}

pub takes_either : (b : Bool) (i j : ℕ) → ¬ (i ≡ j) → Takes b i j ⊎ Takes (not b) i j
takes_either true i j h = elim (dec_lt j i) [ yes l ↦ inl l | no l ↦ inr (omega arith) ]
takes_either false i j h = elim (dec_lt i j) [ yes l ↦ inl l | no l ↦ inr (omega arith) ]

-- f more arcs may lead to j within a pass over n nodes
abbrev pub Room : Bool → ℕ → ℕ → ℕ → Type 0
Room true n j f = n ≤ j + f
Room false n j f = j ≤ f

room_all : (b : Bool) (n j : ℕ) → j ≤ n → Room b n j n
room_all true n j h = omega arith
room_all false n j h = h

pub room_none : {A : Type 0} (b : Bool) (n i j : ℕ) → 1 ≤ i → i ≤ n → Takes b i j → Room b n j 0 → A
room_none true n i j p h t r = absurd (omega arith)
room_none false n i j p h t r = absurd (omega arith)

pub room_less : (b : Bool) (n i j f : ℕ) → Takes b i j → Room b n j (suc f) → Room b n i f
room_less true n i j f t r = omega arith
room_less false n i j f t r = omega arith

module _ {V : Type 0} (m : Algebra V) (net : Network V) (s : ℕ) where
  -- x is the length of a walk from s to j of at most b arcs
  pub record Walked (b j : ℕ) (x : V) : Type 0 where
    pub walk : List ℕ
    pub leads : Walk net s j walk
    pub is : walk_length m net walk ≡ x
    pub few : length walk ≤ b

  abbrev pub Sound : ℕ → Table V → Type 0
  Sound b t = (j : ℕ) (x : V) → In x (t j) → Walked b j x

module _ {V : Type 0} {m : Algebra V} (laws : Laws m) (net : Network V) (formed : WellFormed m net) (k s : ℕ) where
  weaker : (b c j : ℕ) (x : V) → b ≤ c → Walked m net s b j x → Walked m net s c j x
  weaker b c j x h w = record { walk = w.walk; leads = w.leads; is = w.is; few = omega arith }

  module _ (down : Bool) (old new : Table V) (pass : Pass m net k s down old new) where
    module _ (b : ℕ) (sound : Sound m net s b old) where
      pass_sound_within : (f j : ℕ) (x : V) → Room down net.nodes j f → In x (new j) → Walked m net s (b + f) j x
      pass_sound_within zero j x r i = go ((pass j).from x i)
        where
          go : Offered m net k s down old new j x → Walked m net s (b + 0) j x
          go (inl h) = weaker b (b + 0) j x (omega arith) (sound j x h)
          go (inr h) =
              let p = formed h.arc h.is_open in
              room_none down net.nodes (net.start h.arc) j p.start_low p.start_high h.taken r
      pass_sound_within (suc f) j x r i = go (pass_sound_within f) ((pass j).from x i)
        where
          go : ((j' : ℕ) (x' : V) → Room down net.nodes j' f → In x' (new j') → Walked m net s (b + f) j' x') → Offered m net k s down old new j x → Walked m net s (b + suc f) j x
          go ih (inl h) = weaker b (b + suc f) j x (omega arith) (sound j x h)
          go ih (inr h) =
              let w = ih (net.start h.arc) h.old (room_less down net.nodes (net.start h.arc) j f h.taken r) h.there in
              record { walk = h.arc ∷ w.walk; leads = (h.is_open, h.into, w.leads); is = ap (λ v. m.plus v (net.arc_length h.arc)) w.is ∙ sym h.sum; few = omega arith }

      pub pass_sound : Sound m net s (b + net.nodes) new
      pass_sound j x i = go ((pass j).from x i)
        where
          go : Offered m net k s down old new j x → Walked m net s (b + net.nodes) j x
          go (inl h) = weaker b (b + net.nodes) j x (omega arith) (sound j x h)
          go (inr h) =
              let p = formed h.arc h.is_open in
              let e = h.into in
              pass_sound_within net.nodes j x (room_all down net.nodes j (omega arith)) i

    pub pass_keeps : ((j : ℕ) → Ascending m (old j)) → (j : ℕ) (x : V) → Covers m k (old j) x → Covers m k (new j) x
    pass_keeps up j x c =
        carry laws (λ v. Unit {0}) (λ v. v) (λ a b g h l. l) k (old j) (new j) x (up j) (λ v i. tt) tt (λ v i. (pass j).covers v (inl i)) c

    -- an arc that the pass takes carries what its start covers
    pub pass_carries : (b : ℕ) → b * 10 ^ 9 + 10 ^ 9 ≤ 2 ^ 62 → Sound m net s b new → (a : ℕ) (w : List ℕ) → Open net a → Takes down (net.start a) (net.end a) → Counted m net (a ∷ w)
        → Covers m k (new (net.start a)) (walk_length m net w) → Covers m k (new (net.end a)) (walk_length m net (a ∷ w))
    pass_carries b small sound a w o t counted c =
        carry laws (λ v. Joinable m v (net.arc_length a)) (λ v. m.plus v (net.arc_length a)) (λ x y g h l. laws.right_monotone x y (net.arc_length a) l g h)
        k (new (net.start a)) (new (net.end a)) (walk_length m net w) (pass (net.start a)).ascending
        (λ y i. good y (sound (net.start a) y i))
        (omega (arith, magnitude_walk laws net w (omega arith)))
        (λ y i. (pass (net.end a)).covers (m.plus y (net.arc_length a)) (inr (record { arc = a; is_open = o; into = refl; taken = t; old = y; there = i; sum = refl })))
        c
      where
        good : (y : V) → Walked m net s b (net.start a) y → Joinable m y (net.arc_length a)
        good y h =
            let p = formed a o in
            let q = weight_small laws net s (net.start a) h.walk formed h.leads in
            let r = magnitude_walk laws net h.walk (omega arith) in
            subst (λ v. Joinable m v (net.arc_length a)) h.is (omega arith)
