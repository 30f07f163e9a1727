-- The rows as they are computed, node by node.
use Rattle.std.proofs.Common.{◌≡◌, ℕ, zero, suc, ◌<◌, ◌≤◌, Bool, true, false, ◌&&◌, eqb, ◌⊎◌, List, [], ◌∷◌, length, sym, refl, ap, ◌∙◌, subst, inl, inr, arith}
use Rattle.std.proofs.lemmas.Bool.{and_parts, and_from, both_ways, ltb-true, lt-ltb, eqb-true, eq-eqb, ne_eqb, cond-true, cond-false}
use native.Mathlib.Decide.{dec_le, ℕ_discrete}
use Rattle.measure.specs.Algebra.{Algebra, Laws}
use Rattle.walks.specs.Networks.{Network, Open, WellFormed}
use Rattle.walks.specs.Rows.{In, Ascending, Covers, FirstOf, Table}
use Rattle.walks.specs.Method.{place, odd, takes, uses, put, place_all, offer, gather, work, sweep_down, sweep_up, pass, rows}
use Rattle.walks.specs.Runs.{Takes, Joined, Offered, Pass, Start, Run}
use Rattle.walks.proofs.Rows.{covers_in}
use Rattle.walks.proofs.Placing.{place_in, place_short, place_ascending, place_covers, place_keeps}

takes_yes : (b : Bool) (i j : ℕ) → takes b i j ≡ true → Takes b i j
takes_yes true i j h = ltb-true j i h
takes_yes false i j h = ltb-true i j h

takes_from : (b : Bool) (i j : ℕ) → Takes b i j → takes b i j ≡ true
takes_from true i j h = lt-ltb j i h
takes_from false i j h = lt-ltb i j h

module _ {V : Type 0} (net : Network V) (down : Bool) (j : ℕ) where
  pub record Uses (a : ℕ) : Type 0 where
    pub is_open : Open net a
    pub into : net.end a ≡ j
    pub taken : Takes down (net.start a) j

  pub uses_yes : (a : ℕ) → 1 ≤ a → a ≤ net.arcs → uses net down j a ≡ true → Uses a
  uses_yes a low high h =
      let p = and_parts (net.is_open a) (eqb (net.end a) j && takes down (net.start a) j) h in
      let q = and_parts (eqb (net.end a) j) (takes down (net.start a) j) p.1 in
      record { is_open = record { low = low; high = high; marked = p.0 }; into = eqb-true (net.end a) j q.0; taken = takes_yes down (net.start a) j q.1 }

  uses_no : (a : ℕ) → uses net down j a ≡ false → ¬ Uses a
  uses_no a h u =
      both_ways (uses net down j a) h
      (and_from (net.is_open a) (eqb (net.end a) j && takes down (net.start a) j) u.is_open.marked
      (and_from (eqb (net.end a) j) (takes down (net.start a) j) (eq-eqb (net.end a) j u.into) (takes_from down (net.start a) j u.taken)))

pub put_here : {V : Type 0} (t : Table V) (j : ℕ) (row : List V) → put t j row j ≡ row
put_here t j row = cond-true (eqb j j) row (t j) (eq-eqb j j refl)

pub put_there : {V : Type 0} (t : Table V) (j : ℕ) (row : List V) (i : ℕ) → ¬ (i ≡ j) → put t j row i ≡ t i
put_there t j row i h = cond-false (eqb i j) row (t i) (ne_eqb i j h)

module _ {V : Type 0} (m : Algebra V) (net : Network V) (k s : ℕ) where
  pub record Neat (t : Table V) : Type 0 where
    pub up : (j : ℕ) → Ascending m (t j)
    pub short : (j : ℕ) → length (t j) ≤ k

module _ {V : Type 0} {m : Algebra V} (laws : Laws m) (net : Network V) (k s : ℕ) where
  first_more : (P : V → Type 0) (row : List V) (x : V) → FirstOf m k P row → FirstOf m k (λ v. P v ⊎ (v ≡ x)) (place m k x row)
  first_more P row x h = record {
    ascending = place_ascending laws k x row h.ascending;
    short = place_short laws k x row h.short;
    from = λ v i. from v (place_in laws k x row v i);
    covers = covers;
  }
    where
      from : (v : V) → (v ≡ x) ⊎ In v row → P v ⊎ (v ≡ x)
      from v (inl e) = inr e
      from v (inr i) = inl (h.from v i)

      covers : (v : V) → P v ⊎ (v ≡ x) → Covers m k (place m k x row) v
      covers v (inl p) = place_keeps laws k x row v (h.covers v p)
      covers v (inr e) = rw e (place_covers laws k x row)

  first_iff : (P Q : V → Type 0) (row : List V) → ((v : V) → P v → Q v) → ((v : V) → Q v → P v) → FirstOf m k P row → FirstOf m k Q row
  first_iff P Q row f g h = record { ascending = h.ascending; short = h.short; from = λ v i. f v (h.from v i); covers = λ v q. h.covers v (g v q) }

  first_self : (row : List V) → Ascending m row → length row ≤ k → FirstOf m k (λ v. In v row) row
  first_self row up short = record { ascending = up; short = short; from = λ v i. i; covers = λ v i. covers_in laws k row v up short i }

  record Shifted (xs : List V) (l v : V) : Type 0 where
    value : V
    there : In value xs
    sum : v ≡ m.plus value l

  first_all : (P : V → Type 0) (xs : List V) (l : V) (row : List V) → FirstOf m k P row → FirstOf m k (λ v. P v ⊎ Shifted xs l v) (place_all m net k s xs l row)
  first_all P [] l row h = first_iff P (λ v. P v ⊎ Shifted [] l v) row (λ v p. inl p) back h
    where
      back : (v : V) → P v ⊎ Shifted [] l v → P v
      back v (inl p) = p
      back v (inr q) = absurd q.there
  first_all P (x ∷ xs) l row h =
      first_iff (λ v. (P v ⊎ (v ≡ m.plus x l)) ⊎ Shifted xs l v) (λ v. P v ⊎ Shifted (x ∷ xs) l v) (place_all m net k s xs l (place m k (m.plus x l) row)) to back
      (first_all (λ v. P v ⊎ (v ≡ m.plus x l)) xs l (place m k (m.plus x l) row) (first_more P row (m.plus x l) h))
    where
      to : (v : V) → (P v ⊎ (v ≡ m.plus x l)) ⊎ Shifted xs l v → P v ⊎ Shifted (x ∷ xs) l v
      to v (inl (inl p)) = inl p
      to v (inl (inr e)) = inr (record { value = x; there = inl refl; sum = e })
      to v (inr q) = inr (record { value = q.value; there = inr q.there; sum = q.sum })

      which : (v y : V) → v ≡ m.plus y l → In y (x ∷ xs) → (P v ⊎ (v ≡ m.plus x l)) ⊎ Shifted xs l v
      which v y e (inl f) = inl (inr (e ∙ ap (λ z. m.plus z l) f))
      which v y e (inr i) = inr (record { value = y; there = i; sum = e })

      back : (v : V) → P v ⊎ Shifted (x ∷ xs) l v → (P v ⊎ (v ≡ m.plus x l)) ⊎ Shifted xs l v
      back v (inl p) = inl (inl p)
      back v (inr q) = which v q.value q.sum q.there

  module _ (down : Bool) (t : Table V) (neat : Neat m net k s t) (j : ℕ) where
    -- what the arcs 1 to n offer
    pub record Upto (n : ℕ) (x : V) : Type 0 where
      pub joined : Joined m net k s down t j x
      pub early : joined.arc ≤ n

    pub first_upto : (n : ℕ) → n ≤ net.arcs → FirstOf m k (λ x. In x (t j) ⊎ Upto n x) (gather m net k s down t j n)
    first_upto zero le = first_iff (λ v. In v (t j)) (λ x. In x (t j) ⊎ Upto 0 x) (t j) (λ v p. inl p) back (first_self (t j) (neat.up j) (neat.short j))
      where
        back : (v : V) → In v (t j) ⊎ Upto 0 v → In v (t j)
        back v (inl p) = p
        back v (inr q) = absurd (omega (arith, q.early, q.joined.is_open.low))
    first_upto (suc n) le = go (uses net down j (suc n)) refl (first_upto n (omega arith))
      where
        a : ℕ
        a = suc n

        src : List V
        src = t (net.start a)

        go : (d : Bool) → uses net down j a ≡ d → FirstOf m k (λ x. In x (t j) ⊎ Upto n x) (gather m net k s down t j n)
            → FirstOf m k (λ x. In x (t j) ⊎ Upto a x) (offer m net k s d src (net.arc_length a) (gather m net k s down t j n))
        go true e h =
            first_iff (λ v. (In v (t j) ⊎ Upto n v) ⊎ Shifted src (net.arc_length a) v) (λ v. In v (t j) ⊎ Upto a v) (place_all m net k s src (net.arc_length a) (gather m net k s down t j n)) to back
            (first_all (λ v. In v (t j) ⊎ Upto n v) src (net.arc_length a) (gather m net k s down t j n) h)
          where
            u : Uses net down j a
            u = uses_yes net down j a (omega arith) le e

            to : (v : V) → (In v (t j) ⊎ Upto n v) ⊎ Shifted src (net.arc_length a) v → In v (t j) ⊎ Upto a v
            to v (inl (inl p)) = inl p
            to v (inl (inr q)) = inr (record { joined = q.joined; early = omega (arith, q.early) })
            to v (inr q) = inr (record { joined = record { arc = a; is_open = u.is_open; into = u.into; taken = u.taken; old = q.value; there = q.there; sum = q.sum }; early = omega arith })

            which : (v : V) (q : Upto a v) → Dec (q.joined.arc ≡ a) → (In v (t j) ⊎ Upto n v) ⊎ Shifted src (net.arc_length a) v
            which v q (yes e) = inr (record { value = q.joined.old; there = subst (λ b. In q.joined.old (t (net.start b))) e q.joined.there; sum = q.joined.sum ∙ ap (λ b. m.plus q.joined.old (net.arc_length b)) e })
            which v q (no e) = inl (inr (record { joined = q.joined; early = omega (arith, q.early) }))

            back : (v : V) → In v (t j) ⊎ Upto a v → (In v (t j) ⊎ Upto n v) ⊎ Shifted src (net.arc_length a) v
            back v (inl p) = inl (inl p)
            back v (inr q) = which v q (ℕ_discrete q.joined.arc a)
        go false e h = first_iff (λ v. In v (t j) ⊎ Upto n v) (λ v. In v (t j) ⊎ Upto a v) (gather m net k s down t j n) to back h
          where
            to : (v : V) → In v (t j) ⊎ Upto n v → In v (t j) ⊎ Upto a v
            to v (inl p) = inl p
            to v (inr q) = inr (record { joined = q.joined; early = omega (arith, q.early) })

            which : (v : V) (q : Upto a v) → Dec (q.joined.arc ≡ a) → In v (t j) ⊎ Upto n v
            which v q (yes e') = absurd (uses_no net down j a e (subst (Uses net down j) e' (record { is_open = q.joined.is_open; into = q.joined.into; taken = q.joined.taken })))
            which v q (no e) = inr (record { joined = q.joined; early = omega (arith, q.early) })

            back : (v : V) → In v (t j) ⊎ Upto a v → In v (t j) ⊎ Upto n v
            back v (inl p) = inl p
            back v (inr q) = which v q (ℕ_discrete q.joined.arc a)

    pub work_first : FirstOf m k (λ x. In x (t j) ⊎ Joined m net k s down t j x) (work m net k s down t j j)
    work_first =
        rw (put_here t j (gather m net k s down t j net.arcs))
        (first_iff (λ x. In x (t j) ⊎ Upto net.arcs x) (λ x. In x (t j) ⊎ Joined m net k s down t j x) (gather m net k s down t j net.arcs) to back (first_upto net.arcs (omega arith)))
      where
        to : (v : V) → In v (t j) ⊎ Upto net.arcs v → In v (t j) ⊎ Joined m net k s down t j v
        to v (inl p) = inl p
        to v (inr q) = inr q.joined

        back : (v : V) → In v (t j) ⊎ Joined m net k s down t j v → In v (t j) ⊎ Upto net.arcs v
        back v (inl p) = inl p
        back v (inr q) = inr (record { joined = q; early = q.is_open.high })

    pub work_other : (i : ℕ) → ¬ (i ≡ j) → work m net k s down t j i ≡ t i
    work_other i h = put_there t j (gather m net k s down t j net.arcs) i h

  joined_in : (down : Bool) (t t' : Table V) (j : ℕ) (x : V) → ((i : ℕ) → Takes down i j → t i ≡ t' i) → Joined m net k s down t j x → Joined m net k s down t' j x
  joined_in down t t' j x same h =
      record { arc = h.arc; is_open = h.is_open; into = h.into; taken = h.taken; old = h.old; there = subst (In h.old) (same (net.start h.arc) h.taken) h.there; sum = h.sum }

  -- a row that was made from one table stands in another
  moved : (down : Bool) (o o' t t' : Table V) (j : ℕ) (row : List V) → o j ≡ o' j → ((i : ℕ) → Takes down i j → t i ≡ t' i)
      → FirstOf m k (λ x. In x (o j) ⊎ Joined m net k s down t j x) row → FirstOf m k (λ x. In x (o' j) ⊎ Joined m net k s down t' j x) row
  moved down o o' t t' j row e same h = first_iff (λ x. In x (o j) ⊎ Joined m net k s down t j x) (λ x. In x (o' j) ⊎ Joined m net k s down t' j x) row to back h
    where
      to : (x : V) → In x (o j) ⊎ Joined m net k s down t j x → In x (o' j) ⊎ Joined m net k s down t' j x
      to x (inl p) = inl (subst (In x) e p)
      to x (inr q) = inr (joined_in down t t' j x same q)

      back : (x : V) → In x (o' j) ⊎ Joined m net k s down t' j x → In x (o j) ⊎ Joined m net k s down t j x
      back x (inl p) = inl (subst (In x) (sym e) p)
      back x (inr q) = inr (joined_in down t' t j x (λ i l. sym (same i l)) q)

  pub work_neat : (down : Bool) (t : Table V) (j : ℕ) → Neat m net k s t → Neat m net k s (work m net k s down t j)
  work_neat down t j neat = record { up = λ i. up i (ℕ_discrete i j); short = λ i. short i (ℕ_discrete i j) }
    where
      up : (i : ℕ) → Dec (i ≡ j) → Ascending m (work m net k s down t j i)
      up i (yes e) = rw e (work_first down t neat j).ascending
      up i (no e) = rw (work_other down t neat j i e) (neat.up i)

      short : (i : ℕ) → Dec (i ≡ j) → length (work m net k s down t j i) ≤ k
      short i (yes e) = rw e (work_first down t neat j).short
      short i (no e) = rw (work_other down t neat j i e) (neat.short i)

  abbrev Outside : ℕ → ℕ → Type 0
  Outside n j = (i : ℕ) → 1 ≤ i → i ≤ n → ¬ (j ≡ i)

  down_other : (n : ℕ) (t : Table V) → Neat m net k s t → (j : ℕ) → Outside n j → sweep_down m net k s n t j ≡ t j
  down_other zero t neat j out = refl
  down_other (suc n) t neat j out =
      down_other n (work m net k s true t (suc n)) (work_neat true t (suc n) neat) j (λ i l h. out i l (omega arith)) ∙ work_other true t neat (suc n) j (out (suc n) (omega arith) (omega arith))

  down_first : (n : ℕ) (t : Table V) → Neat m net k s t → (j : ℕ) → 1 ≤ j → j ≤ n → FirstOf m k (λ x. In x (t j) ⊎ Joined m net k s true (sweep_down m net k s n t) j x) (sweep_down m net k s n t j)
  down_first zero t neat j low high = absurd (omega arith)
  down_first (suc n) t neat j low high = go (ℕ_discrete j (suc n)) (down_first n t₁ neat₁ j low)
    where
      t₁ : Table V
      t₁ = work m net k s true t (suc n)

      neat₁ : Neat m net k s t₁
      neat₁ = work_neat true t (suc n) neat

      new : Table V
      new = sweep_down m net k s n t₁

      kept : (i : ℕ) → suc n < i → t i ≡ new i
      kept i l = sym (down_other n t₁ neat₁ i (λ i' p q. omega arith) ∙ work_other true t neat (suc n) i (omega arith))

      last : FirstOf m k (λ x. In x (t (suc n)) ⊎ Joined m net k s true new (suc n) x) (new (suc n))
      last = rw (down_other n t₁ neat₁ (suc n) (λ i p q. omega arith)) (moved true t t t new (suc n) (t₁ (suc n)) refl kept (work_first true t neat (suc n)))

      go : Dec (j ≡ suc n) → (j ≤ n → FirstOf m k (λ x. In x (t₁ j) ⊎ Joined m net k s true new j x) (new j)) → FirstOf m k (λ x. In x (t j) ⊎ Joined m net k s true new j x) (new j)
      go (yes e) ih = subst (λ i. FirstOf m k (λ x. In x (t i) ⊎ Joined m net k s true new i x) (new i)) (sym e) last
      go (no e) ih = moved true t₁ t new new j (new j) (work_other true t neat (suc n) j e) (λ i l. refl) (ih (omega arith))

  up_neat : (n : ℕ) (t : Table V) → Neat m net k s t → Neat m net k s (sweep_up m net k s n t)
  up_neat zero t neat = neat
  up_neat (suc n) t neat = work_neat false (sweep_up m net k s n t) (suc n) (up_neat n t neat)

  up_other : (n : ℕ) (t : Table V) → Neat m net k s t → (j : ℕ) → Outside n j → sweep_up m net k s n t j ≡ t j
  up_other zero t neat j out = refl
  up_other (suc n) t neat j out =
      work_other false (sweep_up m net k s n t) (up_neat n t neat) (suc n) j (out (suc n) (omega arith) (omega arith)) ∙ up_other n t neat j (λ i l h. out i l (omega arith))

  up_first : (n : ℕ) (t : Table V) → Neat m net k s t → (j : ℕ) → 1 ≤ j → j ≤ n → FirstOf m k (λ x. In x (t j) ⊎ Joined m net k s false (sweep_up m net k s n t) j x) (sweep_up m net k s n t j)
  up_first zero t neat j low high = absurd (omega arith)
  up_first (suc n) t neat j low high = go (ℕ_discrete j (suc n)) (up_first n t neat j low)
    where
      t₁ : Table V
      t₁ = sweep_up m net k s n t

      neat₁ : Neat m net k s t₁
      neat₁ = up_neat n t neat

      new : Table V
      new = work m net k s false t₁ (suc n)

      kept : (i : ℕ) → ¬ (i ≡ suc n) → t₁ i ≡ new i
      kept i l = sym (work_other false t₁ neat₁ (suc n) i l)

      last : FirstOf m k (λ x. In x (t (suc n)) ⊎ Joined m net k s false new (suc n) x) (new (suc n))
      last = moved false t₁ t t₁ new (suc n) (new (suc n)) (up_other n t neat (suc n) (λ i p q. omega arith)) (λ i l. kept i (omega arith)) (work_first false t₁ neat₁ (suc n))

      go : Dec (j ≡ suc n) → (j ≤ n → FirstOf m k (λ x. In x (t j) ⊎ Joined m net k s false t₁ j x) (t₁ j)) → FirstOf m k (λ x. In x (t j) ⊎ Joined m net k s false new j x) (new j)
      go (yes e) ih = subst (λ i. FirstOf m k (λ x. In x (t i) ⊎ Joined m net k s false new i x) (new i)) (sym e) last
      go (no e) ih = rw (← (kept j e)) (moved false t t t₁ new j (t₁ j) refl (λ i l. kept i (omega arith)) (ih (omega arith)))

  module _ (formed : WellFormed m net) where
    untouched : (down : Bool) (t new : Table V) (j : ℕ) → Neat m net k s t → Outside net.nodes j → new j ≡ t j → FirstOf m k (Offered m net k s down t new j) (new j)
    untouched down t new j neat out e = rw e (first_iff (λ v. In v (t j)) (Offered m net k s down t new j) (t j) (λ v p. inl p) back (first_self (t j) (neat.up j) (neat.short j)))
      where
        back : (v : V) → Offered m net k s down t new j v → In v (t j)
        back v (inl p) = p
        back v (inr q) = let p = formed q.arc q.is_open in absurd (out (net.end q.arc) p.end_low p.end_high (sym q.into))

    pub pass_is : (down : Bool) (t : Table V) → Neat m net k s t → Pass m net k s down t (pass m net k s down t)
    pass_is down t neat j = go down (dec_le 1 j) (dec_le j net.nodes)
      where
        go : (d : Bool) → Dec (1 ≤ j) → Dec (j ≤ net.nodes) → FirstOf m k (Offered m net k s d t (pass m net k s d t) j) (pass m net k s d t j)
        go true (yes l) (yes h) = down_first net.nodes t neat j l h
        go true (no l) q = let out : Outside net.nodes j = λ i p r. omega arith in untouched true t (pass m net k s true t) j neat out (down_other net.nodes t neat j out)
        go true (yes l) (no h) = let out : Outside net.nodes j = λ i p r. omega arith in untouched true t (pass m net k s true t) j neat out (down_other net.nodes t neat j out)
        go false (yes l) (yes h) = up_first net.nodes t neat j l h
        go false (no l) q = let out : Outside net.nodes j = λ i p r. omega arith in untouched false t (pass m net k s false t) j neat out (up_other net.nodes t neat j out)
        go false (yes l) (no h) = let out : Outside net.nodes j = λ i p r. omega arith in untouched false t (pass m net k s false t) j neat out (up_other net.nodes t neat j out)

    start_is : 1 ≤ k → Start m net k s (rows m net k s 0)
    start_is pos j = go (ℕ_discrete j s)
      where
        row : List V
        row = m.null ∷ []

        all : FirstOf m k (λ x. In x row) row
        all = first_self row (tt, tt) (omega arith)

        to : j ≡ s → (v : V) → In v row → (j ≡ s) × (v ≡ m.null)
        to e v (inl p) = (e, p)
        to e v (inr p) = absurd p

        go : Dec (j ≡ s) → FirstOf m k (λ x. (j ≡ s) × (x ≡ m.null)) (rows m net k s 0 j)
        go (yes e) = subst (FirstOf m k (λ x. (j ≡ s) × (x ≡ m.null))) (sym (ap (put (λ i. []) s row) e ∙ put_here (λ i. []) s row)) (first_iff (λ x. In x row) (λ x. (j ≡ s) × (x ≡ m.null)) row (to e) (λ v p. inl p.1) all)
        go (no e) = rw (put_there (λ i. []) s row j e) (record { ascending = tt; short = omega arith; from = λ v i. absurd i; covers = λ v p. absurd (e p.0) })

    neat_of : (P : ℕ → V → Type 0) (t : Table V) → ((j : ℕ) → FirstOf m k (P j) (t j)) → Neat m net k s t
    neat_of P t h = record { up = λ j. (h j).ascending; short = λ j. (h j).short }

    pub rows_neat : 1 ≤ k → (p : ℕ) → Neat m net k s (rows m net k s p)
    rows_neat pos zero = neat_of (λ j x. (j ≡ s) × (x ≡ m.null)) (rows m net k s 0) (start_is pos)
    rows_neat pos (suc p) =
        neat_of (λ j x. Offered m net k s (odd (suc p)) (rows m net k s p) (rows m net k s (suc p)) j x) (rows m net k s (suc p)) (pass_is (odd (suc p)) (rows m net k s p) (rows_neat pos p))

    pub rows_run : 1 ≤ k → Run m net k s (rows m net k s)
    rows_run pos = record { start = start_is pos; passes = λ p. pass_is (odd (suc p)) (rows m net k s p) (rows_neat pos p) }
