-- The computed list of paths has them all, in order.
use Rattle.std.proofs.Common.{◌≡◌, ℕ, zero, suc, ◌*◌, ◌<◌, ◌≤◌, Bool, true, false, ◌&&◌, eqb, ◌⊎◌, List, [], ◌∷◌, ◌++◌, length, Some, None, Option, Ordering, Less, Equal, Greater, sym, refl, ap, ◌∙◌, subst, inl, inr, mul-le-mul, arith}
use native.Mathlib.Decide.{ℕ_discrete}
use Rattle.std.proofs.lemmas.Bool.{and_parts, and_from, false≢true, eqb-true, eq-eqb}
use Rattle.measure.specs.Algebra.{Algebra, Laws, Before, Joinable}
use Rattle.walks.specs.Networks.{Network, Open}
use Rattle.walks.specs.Walks.{Walk, walk_length}
use Rattle.walks.specs.Circuits.{NullCircuit}
use Rattle.walks.specs.Rows.{Table, In, Ascending}
use Rattle.walks.specs.Method.{choose, rows}
use Rattle.walks.specs.Runs.{Settles}
use Rattle.walks.specs.Paths.{Sooner, Ahead, PathTo, Since, Follow}
use Rattle.walks.specs.Theorems.{Within}
use Rattle.walks.specs.Tracing.{only, each, through, over, empty_walk, walks_of, traced_of, traced, InOrder, ListsPaths, TracedInOrder}
use Rattle.walks.proofs.Rows.{above_in}
use Rattle.walks.proofs.Lengths.{weight_small}
use Rattle.walks.proofs.Coverage.{rows_ascending}
use Rattle.walks.proofs.Traces.{cancel}
use Rattle.walks.proofs.Ends.{settled_is}
use Rattle.walks.proofs.Solving.{run, joinable}
use Rattle.walks.proofs.Paths.{ahead_not, ahead_trans, part_path, few}

in_append : {A : Type 0} (x : A) (xs ys : List A) → In x (xs ++ ys) → In x xs ⊎ In x ys
in_append x [] ys i = inr i
in_append x (z ∷ xs) ys (inl e) = inl (inl e)
in_append x (z ∷ xs) ys (inr i) = go (in_append x xs ys i)
  where
    go : In x xs ⊎ In x ys → In x (z ∷ xs) ⊎ In x ys
    go (inl j) = inl (inr j)
    go (inr j) = inr j

in_left : {A : Type 0} (x : A) (xs ys : List A) → In x xs → In x (xs ++ ys)
in_left x [] ys i = absurd i
in_left x (z ∷ xs) ys (inl e) = inl e
in_left x (z ∷ xs) ys (inr i) = inr (in_left x xs ys i)

in_right : {A : Type 0} (x : A) (xs ys : List A) → In x ys → In x (xs ++ ys)
in_right x [] ys i = i
in_right x (z ∷ xs) ys i = inr (in_right x xs ys i)

in_only : (b : Bool) (w : List ℕ) (ws : List (List ℕ)) → In w (only b ws) → (b ≡ true) × In w ws
in_only true w ws i = (refl, i)
in_only false w ws i = absurd i

only_in : (b : Bool) (w : List ℕ) (ws : List (List ℕ)) → b ≡ true → In w ws → In w (only b ws)
only_in true w ws e i = i
only_in false w ws e i = absurd (false≢true e)

-- w is the arc a after a walk of these
record After (a : ℕ) (w : List ℕ) (ws : List (List ℕ)) : Type 0 where
  rest : List ℕ
  is : w ≡ a ∷ rest
  there : In rest ws

in_each : (a : ℕ) (w : List ℕ) (ws : List (List ℕ)) → In w (each a ws) → After a w ws
in_each a w [] i = absurd i
in_each a w (v ∷ ws) (inl e) = record { rest = v; is = e; there = inl refl }
in_each a w (v ∷ ws) (inr i) = let r = in_each a w ws i in record { rest = r.rest; is = r.is; there = inr r.there }

each_in : (a : ℕ) (w : List ℕ) (ws : List (List ℕ)) → In w ws → In (a ∷ w) (each a ws)
each_in a w [] i = absurd i
each_in a w (v ∷ ws) (inl e) = inl (ap (λ z. a ∷ z) e)
each_in a w (v ∷ ws) (inr i) = inr (each_in a w ws i)

-- lists in which each walk is sooner than all later ones
abbrev Rising : List (List ℕ) → Type 0
Rising [] = Unit {0}
Rising (w ∷ ws) = ((v : List ℕ) → In v ws → Sooner w v) × Rising ws

rising_append : (xs ys : List (List ℕ)) → Rising xs → Rising ys → ((x y : List ℕ) → In x xs → In y ys → Sooner x y) → Rising (xs ++ ys)
rising_append [] ys p q h = q
rising_append (x ∷ xs) ys p q h = (λ v i. go v (in_append v xs ys i), rising_append xs ys p.1 q (λ a b i j. h a b (inr i) j))
  where
    go : (v : List ℕ) → In v xs ⊎ In v ys → Sooner x v
    go v (inl i) = p.0 v i
    go v (inr i) = h x v (inl refl) i

rising_only : (b : Bool) (ws : List (List ℕ)) → Rising ws → Rising (only b ws)
rising_only true ws h = h
rising_only false ws h = tt

rising_each : (a : ℕ) (ws : List (List ℕ)) → Rising ws → Rising (each a ws)
rising_each a [] h = tt
rising_each a (w ∷ ws) h = (λ v i. let r = in_each a v ws i in subst (Sooner (a ∷ w)) (sym r.is) (inr (refl, h.0 r.rest r.there)), rising_each a ws h.1)

module _ {V : Type 0} (m : Algebra V) (net : Network V) (s : ℕ) (t : Table V) where
  rising_through : (find : V → List (List ℕ)) (us : List V) (l x : V) → ((u : V) → Rising (find u)) → Rising (through m net s t find us l x)
  rising_through find [] l x h = tt
  rising_through find (u ∷ us) l x h = go (m.compare (m.plus u l) x) (rising_through find us l x h)
    where
      go : (o : Ordering) → Rising (through m net s t find us l x) → Rising (choose o (through m net s t find us l x) (find u) (through m net s t find us l x))
      go Less ih = ih
      go Equal ih = h u
      go Greater ih = ih

  -- the last arc of a walk is one of 1 to n
  record Ends (n : ℕ) (w : List ℕ) : Type 0 where
    arc : ℕ
    rest : List ℕ
    is : w ≡ arc ∷ rest
    high : arc ≤ n

  over_ends : (find : ℕ → V → List (List ℕ)) (j : ℕ) (x : V) (n : ℕ) (w : List ℕ) → In w (over m net s t find j x n) → Ends n w
  over_ends find j x zero w i = absurd i
  over_ends find j x (suc n) w i = go (in_append w (over m net s t find j x n) (only here (each (suc n) inner)) i) (over_ends find j x n w)
    where
      here : Bool
      here = net.is_open (suc n) && eqb (net.end (suc n)) j

      inner : List (List ℕ)
      inner = through m net s t (find (net.start (suc n))) (t (net.start (suc n))) (net.arc_length (suc n)) x

      go : In w (over m net s t find j x n) ⊎ In w (only here (each (suc n) inner)) → (In w (over m net s t find j x n) → Ends n w) → Ends (suc n) w
      go (inl i) ih = let r = ih i in record { arc = r.arc; rest = r.rest; is = r.is; high = omega (arith, r.high) }
      go (inr i) ih = let r = in_each (suc n) w inner (in_only here w (each (suc n) inner) i).1 in record { arc = suc n; rest = r.rest; is = r.is; high = omega arith }

  rising_over : (find : ℕ → V → List (List ℕ)) (j : ℕ) (x : V) (n : ℕ) → ((i : ℕ) (u : V) → Rising (find i u)) → Rising (over m net s t find j x n)
  rising_over find j x zero h = tt
  rising_over find j x (suc n) h =
      rising_append (over m net s t find j x n) (only here (each (suc n) inner)) (rising_over find j x n h)
      (rising_only here (each (suc n) inner) (rising_each (suc n) inner (rising_through (find (net.start (suc n))) (t (net.start (suc n))) (net.arc_length (suc n)) x (h (net.start (suc n))))))
      apart
    where
      here : Bool
      here = net.is_open (suc n) && eqb (net.end (suc n)) j

      inner : List (List ℕ)
      inner = through m net s t (find (net.start (suc n))) (t (net.start (suc n))) (net.arc_length (suc n)) x

      apart : (v w : List ℕ) → In v (over m net s t find j x n) → In w (only here (each (suc n) inner)) → Sooner v w
      apart v w i k =
          let p = over_ends find j x n v i in
          let r = in_each (suc n) w inner (in_only here w (each (suc n) inner) k).1 in
          let l : p.arc < suc n = omega (arith, p.high) in
          subst (λ z. Sooner z w) (sym p.is) (subst (Sooner (p.arc ∷ p.rest)) (sym r.is) (inl l))

  pub rising_walks : (n j : ℕ) (x : V) → Rising (walks_of m net s t n j x)
  rising_walks zero j x = tt
  rising_walks (suc n) j x =
      rising_append (empty_walk m net s t j x) (over m net s t (walks_of m net s t n) j x net.arcs) (rising_only _ ([] ∷ []) (λ v i. absurd i, tt))
      (rising_over (walks_of m net s t n) j x net.arcs (rising_walks n)) apart
    where
      first : (v w : List ℕ) → In v ([] ∷ []) → In w (over m net s t (walks_of m net s t n) j x net.arcs) → Sooner v w
      first v w (inl e) k =
          let p = over_ends (walks_of m net s t n) j x net.arcs w k in
          subst (λ z. Sooner z w) (sym e) (subst (Sooner []) (sym p.is) tt)
      first v w (inr i) k = absurd i

      apart : (v w : List ℕ) → In v (empty_walk m net s t j x) → In w (over m net s t (walks_of m net s t n) j x net.arcs) → Sooner v w
      apart v w i k = first v w (in_only _ v ([] ∷ []) i).1 k

module _ {V : Type 0} {m : Algebra V} (laws : Laws m) (net : Network V) (s : ℕ) (t : Table V) where
  equal_yes : (y x : V) → choose (m.compare y x) false true false ≡ true → y ≡ x
  equal_yes y x h = go (m.compare y x) refl h
    where
      go : (o : Ordering) → m.compare y x ≡ o → choose o false true false ≡ true → y ≡ x
      go Less e q = absurd (false≢true q)
      go Equal e q = laws.same y x e
      go Greater e q = absurd (false≢true q)

  -- what `through` gives comes from a value of the row
  record Passed (find : V → List (List ℕ)) (us : List V) (l x : V) (w : List ℕ) : Type 0 where
    value : V
    there : In value us
    sum : m.plus value l ≡ x
    found : In w (find value)

  in_through : (find : V → List (List ℕ)) (us : List V) (l x : V) (w : List ℕ) → In w (through m net s t find us l x) → Passed find us l x w
  in_through find [] l x w i = absurd i
  in_through find (u ∷ us) l x w i = go (m.compare (m.plus u l) x) refl i (in_through find us l x w)
    where
      later : Passed find us l x w → Passed find (u ∷ us) l x w
      later p = record { value = p.value; there = inr p.there; sum = p.sum; found = p.found }

      go : (o : Ordering) → m.compare (m.plus u l) x ≡ o → In w (choose o (through m net s t find us l x) (find u) (through m net s t find us l x)) → (In w (through m net s t find us l x) → Passed find us l x w) → Passed find (u ∷ us) l x w
      go Less e k ih = later (ih k)
      go Equal e k ih = record { value = u; there = inl refl; sum = laws.same (m.plus u l) x e; found = k }
      go Greater e k ih = later (ih k)

  -- a value of the row whose join is x is the one that is found, since joins with l are never the same
  through_in : (find : V → List (List ℕ)) (us : List V) (l x v : V) (w : List ℕ) → ((u : V) → In u us → Joinable m u l) → In v us → m.plus v l ≡ x → In w (find v) → In w (through m net s t find us l x)
  through_in find [] l x v w fits i e k = absurd i
  through_in find (u ∷ us) l x v w fits i e k = go (m.compare (m.plus u l) x) refl i (λ j. through_in find us l x v w (λ y z. fits y (inr z)) j e k)
    where
      go : (o : Ordering) → m.compare (m.plus u l) x ≡ o → In v (u ∷ us) → (In v us → In w (through m net s t find us l x)) → In w (choose o (through m net s t find us l x) (find u) (through m net s t find us l x))
      go Less c (inl f) ih = let d : m.compare (m.plus u l) x ≡ Equal = subst (λ y. m.compare (m.plus y l) x ≡ Equal) f (subst (λ y. m.compare (m.plus v l) y ≡ Equal) e (laws.same_self (m.plus v l))) in let z : ◌≡◌ {A = ℕ} 0 1 = cc in absurd (omega arith)
      go Less c (inr j) ih = ih j
      go Equal c j ih = subst (λ y. In w (find y)) (sym (cancel laws u v l (fits u (inl refl)) (fits v i) (laws.same (m.plus u l) x c ∙ sym e))) k
      go Greater c (inl f) ih = let d : m.compare (m.plus u l) x ≡ Equal = subst (λ y. m.compare (m.plus y l) x ≡ Equal) f (subst (λ y. m.compare (m.plus v l) y ≡ Equal) e (laws.same_self (m.plus v l))) in let z : ◌≡◌ {A = ℕ} 0 1 = cc in absurd (omega arith)
      go Greater c (inr j) ih = ih j

  -- what `over` gives ends with an open arc to j
  record Over (find : ℕ → V → List (List ℕ)) (j : ℕ) (x : V) (w : List ℕ) : Type 0 where
    arc : ℕ
    is_open : Open net arc
    into : net.end arc ≡ j
    rest : List ℕ
    is : w ≡ arc ∷ rest
    passed : Passed (find (net.start arc)) (t (net.start arc)) (net.arc_length arc) x rest

  in_over : (find : ℕ → V → List (List ℕ)) (j : ℕ) (x : V) (n : ℕ) (w : List ℕ) → n ≤ net.arcs → In w (over m net s t find j x n) → Over find j x w
  in_over find j x zero w le i = absurd i
  in_over find j x (suc n) w le i = go (in_append w (over m net s t find j x n) (only here (each (suc n) inner)) i) (in_over find j x n w (omega arith))
    where
      here : Bool
      here = net.is_open (suc n) && eqb (net.end (suc n)) j

      inner : List (List ℕ)
      inner = through m net s t (find (net.start (suc n))) (t (net.start (suc n))) (net.arc_length (suc n)) x

      go : In w (over m net s t find j x n) ⊎ In w (only here (each (suc n) inner)) → (In w (over m net s t find j x n) → Over find j x w) → Over find j x w
      go (inl k) ih = ih k
      go (inr k) ih =
          let o = in_only here w (each (suc n) inner) k in
          let b = and_parts (net.is_open (suc n)) (eqb (net.end (suc n)) j) o.0 in
          let r = in_each (suc n) w inner o.1 in
          record { arc = suc n; is_open = record { low = omega arith; high = le; marked = b.0 }; into = eqb-true (net.end (suc n)) j b.1; rest = r.rest; is = r.is; passed = in_through (find (net.start (suc n))) (t (net.start (suc n))) (net.arc_length (suc n)) x r.rest r.there }

  over_in : (find : ℕ → V → List (List ℕ)) (j : ℕ) (x : V) (n a : ℕ) (w : List ℕ) → Open net a → a ≤ n → net.end a ≡ j → In w (through m net s t (find (net.start a)) (t (net.start a)) (net.arc_length a) x) → In (a ∷ w) (over m net s t find j x n)
  over_in find j x zero a w o le e i = absurd (omega (arith, o.low))
  over_in find j x (suc n) a w o le e i = go (ℕ_discrete a (suc n)) (λ l. over_in find j x n a w o l e i)
    where
      here : Bool
      here = net.is_open (suc n) && eqb (net.end (suc n)) j

      inner : List (List ℕ)
      inner = through m net s t (find (net.start (suc n))) (t (net.start (suc n))) (net.arc_length (suc n)) x

      last : Open net (suc n) → net.end (suc n) ≡ j → In w inner → In (suc n ∷ w) (over m net s t find j x n ++ only here (each (suc n) inner))
      last p f k = in_right (suc n ∷ w) (over m net s t find j x n) (only here (each (suc n) inner)) (only_in here (suc n ∷ w) (each (suc n) inner) (and_from (net.is_open (suc n)) (eqb (net.end (suc n)) j) p.marked (eq-eqb (net.end (suc n)) j f)) (each_in (suc n) w inner k))

      go : Dec (a ≡ suc n) → (a ≤ n → In (a ∷ w) (over m net s t find j x n)) → In (a ∷ w) (over m net s t find j x n ++ only here (each (suc n) inner))
      go (yes f) ih =
          subst (λ b. In (b ∷ w) (over m net s t find j x n ++ only here (each (suc n) inner))) (sym f)
          (last (subst (Open net) f o) (subst (λ b. net.end b ≡ j) f e) (subst (λ b. In w (through m net s t (find (net.start b)) (t (net.start b)) (net.arc_length b) x)) f i))
      go (no f) ih = in_left (a ∷ w) (over m net s t find j x n) (only here (each (suc n) inner)) (ih (omega arith))

  -- a walk to j of length x with fewer than n arcs
  record Found (n j : ℕ) (x : V) (w : List ℕ) : Type 0 where
    leads : Walk net s j w
    is : walk_length m net w ≡ x
    few : length w < n

  walks_found : (n j : ℕ) (x : V) (w : List ℕ) → In w (walks_of m net s t n j x) → Found n j x w
  walks_found zero j x w i = absurd i
  walks_found (suc n) j x w i = go (in_append w (empty_walk m net s t j x) (over m net s t (walks_of m net s t n) j x net.arcs) i) (walks_found n)
    where
      home : Bool
      home = eqb s j && choose (m.compare m.null x) false true false

      empty : home ≡ true → In w ([] ∷ []) → Found (suc n) j x w
      empty e (inl f) =
          let b = and_parts (eqb s j) (choose (m.compare m.null x) false true false) e in
          subst (Found (suc n) j x) (sym f) (record { leads = eqb-true s j b.0; is = equal_yes m.null x b.1; few = omega arith })
      empty e (inr k) = absurd k

      go : In w (empty_walk m net s t j x) ⊎ In w (over m net s t (walks_of m net s t n) j x net.arcs) → ((j' : ℕ) (x' : V) (w' : List ℕ) → In w' (walks_of m net s t n j' x') → Found n j' x' w') → Found (suc n) j x w
      go (inl k) ih = let o = in_only home w ([] ∷ []) k in empty o.0 o.1
      go (inr k) ih =
          let o = in_over (walks_of m net s t n) j x net.arcs w (omega arith) k in
          let p = o.passed in
          let f = ih (net.start o.arc) p.value o.rest p.found in
          subst (Found (suc n) j x) (sym o.is) (record { leads = (o.is_open, o.into, f.leads); is = ap (λ y. m.plus y (net.arc_length o.arc)) f.is ∙ p.sum; few = omega (arith, f.few) })

  module _ (fits : (a : ℕ) (u : V) → Open net a → In u (t (net.start a)) → Joinable m u (net.arc_length a)) (part : (j a : ℕ) (w : List ℕ) → PathTo m net s t j (a ∷ w) → PathTo m net s t (net.start a) w) where
    found_walks : (n j : ℕ) (w : List ℕ) → PathTo m net s t j w → length w < n → In w (walks_of m net s t n j (walk_length m net w))
    found_walks zero j w p l = absurd (omega arith)
    found_walks (suc n) j [] p l =
        in_left [] (empty_walk m net s t j m.null) (over m net s t (walks_of m net s t n) j m.null net.arcs)
        (only_in (eqb s j && choose (m.compare m.null m.null) false true false) [] ([] ∷ [])
        (and_from (eqb s j) (choose (m.compare m.null m.null) false true false) (eq-eqb s j p.leads) (ap (λ o. choose o false true false) (laws.same_self m.null))) (inl refl))
    found_walks (suc n) j (a ∷ w) p l =
        let r = part j a w p in
        let ih = found_walks n (net.start a) w r (omega arith) in
        let x = walk_length m net (a ∷ w) in
        in_right (a ∷ w) (empty_walk m net s t j (walk_length m net (a ∷ w))) (over m net s t (walks_of m net s t n) j (walk_length m net (a ∷ w)) net.arcs)
        (over_in (walks_of m net s t n) j (walk_length m net (a ∷ w)) net.arcs a w p.leads.0 p.leads.0.high p.leads.1
        (through_in (walks_of m net s t n (net.start a)) (t (net.start a)) (net.arc_length a) (walk_length m net (a ∷ w)) (walk_length m net w) w (λ u i. fits a u p.leads.0 i) r.inside refl ih))

  -- the list over all lengths of a row
  record Listed (n j : ℕ) (xs : List V) (w : List ℕ) : Type 0 where
    value : V
    there : In value xs
    found : Found n j value w

  in_traced : (n j : ℕ) (xs : List V) (w : List ℕ) → In w (traced_of m net s t n j xs) → Listed n j xs w
  in_traced n j [] w i = absurd i
  in_traced n j (x ∷ xs) w i = go (in_append w (walks_of m net s t n j x) (traced_of m net s t n j xs) i) (in_traced n j xs w)
    where
      go : In w (walks_of m net s t n j x) ⊎ In w (traced_of m net s t n j xs) → (In w (traced_of m net s t n j xs) → Listed n j xs w) → Listed n j (x ∷ xs) w
      go (inl k) ih = record { value = x; there = inl refl; found = walks_found n j x w k }
      go (inr k) ih = let r = ih k in record { value = r.value; there = inr r.there; found = r.found }

  traced_in : (n j : ℕ) (xs : List V) (x : V) (w : List ℕ) → In x xs → In w (walks_of m net s t n j x) → In w (traced_of m net s t n j xs)
  traced_in n j [] x w i k = absurd i
  traced_in n j (y ∷ xs) x w (inl e) k = in_left w (walks_of m net s t n j y) (traced_of m net s t n j xs) (subst (λ z. In w (walks_of m net s t n j z)) e k)
  traced_in n j (y ∷ xs) x w (inr i) k = in_right w (walks_of m net s t n j y) (traced_of m net s t n j xs) (traced_in n j xs x w i k)

  order_append : (xs ys : List (List ℕ)) → InOrder m net s t xs → InOrder m net s t ys → ((x y : List ℕ) → In x xs → In y ys → Ahead m net x y) → InOrder m net s t (xs ++ ys)
  order_append [] ys p q h = q
  order_append (x ∷ xs) ys p q h = (λ v i. go v (in_append v xs ys i), order_append xs ys p.1 q (λ a b i j. h a b (inr i) j))
    where
      go : (v : List ℕ) → In v xs ⊎ In v ys → Ahead m net x v
      go v (inl i) = p.0 v i
      go v (inr i) = h x v (inl refl) i

  order_same : (x : V) (ws : List (List ℕ)) → Rising ws → ((w : List ℕ) → In w ws → walk_length m net w ≡ x) → InOrder m net s t ws
  order_same x [] h e = tt
  order_same x (w ∷ ws) h e = (λ v i. inr (e w (inl refl) ∙ sym (e v (inr i)), h.0 v i), order_same x ws h.1 (λ v i. e v (inr i)))

  order_traced : (n j : ℕ) (xs : List V) → Ascending m xs → InOrder m net s t (traced_of m net s t n j xs)
  order_traced n j [] up = tt
  order_traced n j (x ∷ xs) up =
      order_append (walks_of m net s t n j x) (traced_of m net s t n j xs)
      (order_same x (walks_of m net s t n j x) (rising_walks m net s t n j x) (λ w i. (walks_found n j x w i).is))
      (order_traced n j xs up.1)
      (λ v w i k.
      let f = walks_found n j x v i in
      let r = in_traced n j xs w k in
      inl (subst (λ y. Before m y (walk_length m net w)) (sym f.is) (subst (Before m x) (sym r.found.is) (above_in laws x r.value xs up.0 r.there))))

  -- a list of all paths after the last one, in order, goes on from it path by path
  follows : (j : ℕ) (last : Option (List ℕ)) (ws : List (List ℕ)) → InOrder m net s t ws → ((w : List ℕ) → In w ws → PathTo m net s t j w × Since m net s t last w) → ((w : List ℕ) → PathTo m net s t j w → Since m net s t last w → In w ws)
      → Follow m net s t j last ws
  follows j last [] up from all = λ v p z. all v p z
  follows j last (w ∷ ws) up from all = (
    record { path = (from w (inl refl)).0; since = (from w (inl refl)).1; first = λ v p z a. first v a (all v p z) },
    follows j (Some w) ws up.1 (λ v i. ((from v (inr i)).0, up.0 v i)) (λ v p a. rest v a (all v p (since_on last (from w (inl refl)).1 v a))),
  )
    where
      first : (v : List ℕ) → Ahead m net v w → In v (w ∷ ws) → ⊥
      first v a (inl e) = ahead_not laws net w (subst (λ z. Ahead m net z w) e a)
      first v a (inr i) = ahead_not laws net w (ahead_trans laws net w v w (up.0 v i) a)

      rest : (v : List ℕ) → Ahead m net w v → In v (w ∷ ws) → In v ws
      rest v a (inl e) = absurd (ahead_not laws net w (subst (Ahead m net w) e a))
      rest v a (inr i) = i

      since_on : (o : Option (List ℕ)) → Since m net s t o w → (v : List ℕ) → Ahead m net w v → Since m net s t o v
      since_on None z v a = tt
      since_on (Some u) z v a = ahead_trans laws net u w v z a

module _ {V : Type 0} {m : Algebra V} {net : Network V} {k s : ℕ} (laws : Laws m) (g : Within m net (suc k) s) (none : ¬ NullCircuit m net s) where
  lists : (p : ℕ) → Settles m net (suc k) s (rows m net (suc k) s) p → (j : ℕ) → ListsPaths m net s (rows m net (suc k) s p) j (traced m net s (rows m net (suc k) s p) (suc k) j)
  lists zero h j = absurd (omega (arith, h.second))
  lists (suc zero) h j = absurd (omega (arith, h.second))
  lists (suc (suc q)) h j = record { all = all; paths = paths; in_order = in_order; follow = follows laws net s t j None (traced m net s t (suc k) j) in_order (λ w i. (paths w i, tt)) (λ w p z. all w p) }
    where
      t : Table V
      t = rows m net (suc k) s (suc (suc q))

      all : (w : List ℕ) → PathTo m net s t j w → In w (traced m net s t (suc k) j)
      all w p =
          traced_in laws net s t (net.nodes * suc k) j (t j) (walk_length m net w) w p.inside
          (found_walks laws net s t (λ a u o i. joinable laws g (suc (suc q)) a u h.in_time o i) (part_path laws g q h) (net.nodes * suc k) j w p (few laws g q h none j w p))

      paths : (w : List ℕ) → In w (traced m net s t (suc k) j) → PathTo m net s t j w
      paths w i =
          let r = in_traced laws net s t (net.nodes * suc k) j (t j) w i in
          let f = r.found in
          let l = f.few in
          let product : net.nodes * suc k ≤ 1000 * 20 = mul-le-mul g.nodes_high g.k_high in
          let light = weight_small laws net s j w g.formed f.leads in
          record { leads = f.leads; counted = omega arith; inside = subst (λ x. In x (t j)) (sym f.is) r.there }

      in_order : InOrder m net s t (traced m net s t (suc k) j)
      in_order = order_traced laws net s t (net.nodes * suc k) j (t j) (rows_ascending laws net g.formed (suc k) s (rows m net (suc k) s) (run laws g) (suc (suc q)) j)

pub traced_in_order : {V : Type 0} {m : Algebra V} → Laws m → TracedInOrder m
traced_in_order laws net zero s g p e none j = absurd (omega (arith, g.k_low))
traced_in_order laws net (suc k) s g p e none j = lists laws g none p (settled_is laws net (suc k) s p e) j
