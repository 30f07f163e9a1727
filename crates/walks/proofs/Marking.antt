-- Whether a null circuit is reached, by marking nodes.
use Rattle.std.proofs.Common.{◌≡◌, ℕ, zero, suc, ◌+◌, ◌*◌, ◌^◌, ◌<◌, ◌≤◌, Bool, true, false, not, ◌&&◌, eqb, List, [], ◌∷◌, ◌++◌, length, Ordering, Less, Equal, Greater, sym, refl, ap, ◌∙◌, subst, arith, length-append}
use native.Mathlib.Decide.{ℕ_discrete}
use Rattle.std.proofs.lemmas.Bool.{and_parts, and_from, false≢true, eqb-true, eq-eqb}
use Rattle.measure.specs.Algebra.{Algebra, Laws}
use Rattle.walks.specs.Networks.{Network, WellFormed}
use Rattle.walks.specs.Walks.{Walk, walk_length, Counted}
use Rattle.walks.specs.Circuits.{NegativeCircuit, NullCircuit}
use Rattle.walks.specs.Rows.{Table, Covers}
use Rattle.walks.specs.Method.{choose, rows}
use Rattle.walks.specs.Runs.{Settles}
use Rattle.walks.specs.Nulls.{Tight, AllTight, Ring, carries, is_tight, implies, cleared, marked, all_marked, null_found, TellsNulls, NullsTold}
use Rattle.walks.specs.Theorems.{Within}
use Rattle.walks.proofs.Lengths.{walk_append}
use Rattle.walks.proofs.Nulls.{Behind, behind_more, behind_ring, ranked, held_ring, null_ring, ring_null}
use Rattle.walks.proofs.Ends.{settled_is}
use Rattle.walks.proofs.Solving.{sound, none_reached, complete, small}

module _ {V : Type 0} {m : Algebra V} (laws : Laws m) (net : Network V) (t : Table V) where
  -- the first lengths of two rows
  record Carried (xs : List V) (l : V) (ys : List V) : Type 0 where
    there : V
    here : V
    more : List V
    more' : List V
    start : xs ≡ there ∷ more
    end : ys ≡ here ∷ more'
    sum : m.plus there l ≡ here

  carries_yes : (xs : List V) (l : V) (ys : List V) → carries m net t xs l ys ≡ true → Carried xs l ys
  carries_yes [] l ys h = absurd (false≢true h)
  carries_yes (x ∷ xs) l [] h = absurd (false≢true h)
  carries_yes (x ∷ xs) l (y ∷ ys) h = go (m.compare (m.plus x l) y) refl h
    where
      go : (o : Ordering) → m.compare (m.plus x l) y ≡ o → choose o false true false ≡ true → Carried (x ∷ xs) l (y ∷ ys)
      go Less e q = absurd (false≢true q)
      go Equal e q = record { there = x; here = y; more = xs; more' = ys; start = refl; end = refl; sum = laws.same (m.plus x l) y e }
      go Greater e q = absurd (false≢true q)

  carries_from : (x l y : V) (xs ys : List V) → m.plus x l ≡ y → carries m net t (x ∷ xs) l (y ∷ ys) ≡ true
  carries_from x l y xs ys e = ap (λ o. choose o false true false) (ap (λ z. m.compare z y) e ∙ laws.same_self y)

  tight_yes : (a : ℕ) → 1 ≤ a → a ≤ net.arcs → is_tight m net t a ≡ true → Tight m net t a
  tight_yes a low high h =
      let q = and_parts (net.is_open a) (carries m net t (t (net.start a)) (net.arc_length a) (t (net.end a))) h in
      let c = carries_yes (t (net.start a)) (net.arc_length a) (t (net.end a)) q.1 in
      record { is_open = record { low = low; high = high; marked = q.0 }; there = c.there; here = c.here; start = record { rest = c.more; is = c.start }; end = record { rest = c.more'; is = c.end }; sum = c.sum }

  tight_test : (a : ℕ) → Tight m net t a → is_tight m net t a ≡ true
  tight_test a h =
      and_from (net.is_open a) (carries m net t (t (net.start a)) (net.arc_length a) (t (net.end a))) h.is_open.marked
      (ap (λ r. carries m net t r (net.arc_length a) (t (net.end a))) h.start.is
      ∙ ap (λ r. carries m net t (h.there ∷ h.start.rest) (net.arc_length a) r) h.end.is
      ∙ carries_from h.there (net.arc_length a) h.here h.start.rest h.end.rest h.sum)

  -- a tight arc to j, of the arcs 1 to n, from a node without a mark
  record Uncleared (mark : ℕ → Bool) (j n : ℕ) : Type 0 where
    arc : ℕ
    tight : Tight m net t arc
    into : net.end arc ≡ j
    from : mark (net.start arc) ≡ false

  cleared_no : (mark : ℕ → Bool) (j n : ℕ) → n ≤ net.arcs → cleared m net t mark j n ≡ false → Uncleared mark j n
  cleared_no mark j zero le h = absurd (false≢true (sym h))
  cleared_no mark j (suc n) le h = go (is_tight m net t (suc n) && eqb (net.end (suc n)) j) refl (mark (net.start (suc n))) refl h (cleared_no mark j n (omega arith))
    where
      wider : Uncleared mark j n → Uncleared mark j (suc n)
      wider u = record { arc = u.arc; tight = u.tight; into = u.into; from = u.from }

      go : (b : Bool) → (is_tight m net t (suc n) && eqb (net.end (suc n)) j) ≡ b → (c : Bool) → mark (net.start (suc n)) ≡ c → (implies m net t b c && cleared m net t mark j n) ≡ false → (cleared m net t mark j n ≡ false → Uncleared mark j n) → Uncleared mark j (suc n)
      go false e c f q ih = wider (ih q)
      go true e true f q ih = wider (ih q)
      go true e false f q ih =
          let p = and_parts (is_tight m net t (suc n)) (eqb (net.end (suc n)) j) e in
          record { arc = suc n; tight = tight_yes (suc n) (omega arith) le p.0; into = eqb-true (net.end (suc n)) j p.1; from = f }

  cleared_yes : (mark : ℕ → Bool) (j n : ℕ) → cleared m net t mark j n ≡ true → (a : ℕ) → 1 ≤ a → a ≤ n → Tight m net t a → net.end a ≡ j → mark (net.start a) ≡ true
  cleared_yes mark j zero h a low high q e = absurd (omega arith)
  cleared_yes mark j (suc n) h a low high q e = go (ℕ_discrete a (suc n)) (λ l. cleared_yes mark j n parts.1 a low l q e)
    where
      parts : (implies m net t (is_tight m net t (suc n) && eqb (net.end (suc n)) j) (mark (net.start (suc n))) ≡ true) × (cleared m net t mark j n ≡ true)
      parts = and_parts (implies m net t (is_tight m net t (suc n) && eqb (net.end (suc n)) j) (mark (net.start (suc n)))) (cleared m net t mark j n) h

      holds : a ≡ suc n → (is_tight m net t (suc n) && eqb (net.end (suc n)) j) ≡ true
      holds f = and_from (is_tight m net t (suc n)) (eqb (net.end (suc n)) j) (subst (λ b. is_tight m net t b ≡ true) f (tight_test a q)) (eq-eqb (net.end (suc n)) j (ap (λ b. net.end b) (sym f) ∙ e))

      go : Dec (a ≡ suc n) → (a ≤ n → mark (net.start a) ≡ true) → mark (net.start a) ≡ true
      go (yes f) ih = subst (λ b. mark (net.start b) ≡ true) (sym f) (subst (λ b. implies m net t b (mark (net.start (suc n))) ≡ true) (holds f) parts.0)
      go (no f) ih = ih (omega arith)

  -- a node without a mark after r rounds has r tight arcs behind it
  behind : (r j : ℕ) → marked m net t r j ≡ false → Behind m net t r j
  behind zero j h = record { at = j; way = []; leads = refl; many = refl; tight = tt }
  behind (suc r) j h =
      let u = cleared_no (marked m net t r) j net.arcs (omega arith) h in
      behind_more m net t r u.arc j u.tight u.into (behind r (net.start u.arc) u.from)

  -- a node that is marked after r rounds has fewer
  fewer : (r v j : ℕ) (w : List ℕ) → marked m net t r j ≡ true → Walk net v j w → AllTight m net t w → length w < r
  fewer zero v j w h on tight = absurd (false≢true h)
  fewer (suc r) v j [] h on tight = omega arith
  fewer (suc r) v j (a ∷ w) h on tight =
      let o = on.0 in
      let ih = fewer r v (net.start a) w (cleared_yes (marked m net t r) j net.arcs h a o.low o.high tight.0 on.1) on.2 tight.1 in
      omega arith

  tight_append : (u w : List ℕ) → AllTight m net t u → AllTight m net t w → AllTight m net t (u ++ w)
  tight_append [] w p q = q
  tight_append (a ∷ u) w p q = (p.0, tight_append u w p.1 q)

  -- a ring gone round n times
  around : (r : Ring m net t) (n : ℕ) → (w : List ℕ) × (Walk net r.at r.at w × AllTight m net t w × (n ≤ length w))
  around r zero = ([], (refl, tt, omega arith))
  around r (suc n) =
      let h = around r n in
      let c = r.last ∷ r.rest in
      let long = h.1.2 in
      (c ++ h.0, (walk_append net r.at r.at r.at c h.0 r.round h.1.0, tight_append c h.0 r.tight h.1.1, omega (arith, length-append c h.0)))

  ring_unmarked : (r : Ring m net t) (n : ℕ) → marked m net t n r.at ≡ true → ⊥
  ring_unmarked r n h =
      let a = around r n in
      let f = fewer n r.at r.at a.0 h a.1.0 a.1.1 in
      let l = a.1.2 in
      omega arith

  record Left (n : ℕ) : Type 0 where
    node : ℕ
    none : marked m net t net.nodes node ≡ false

  some_left : (n : ℕ) → all_marked m net t n ≡ false → Left n
  some_left zero h = absurd (false≢true (sym h))
  some_left (suc n) h = go (marked m net t net.nodes (suc n)) refl h (some_left n)
    where
      go : (b : Bool) → marked m net t net.nodes (suc n) ≡ b → (b && all_marked m net t n) ≡ false → (all_marked m net t n ≡ false → Left n) → Left (suc n)
      go true e q ih = let r = ih q in record { node = r.node; none = r.none }
      go false e q ih = record { node = suc n; none = e }

  none_left : (n : ℕ) → all_marked m net t n ≡ true → (j : ℕ) → 1 ≤ j → j ≤ n → marked m net t net.nodes j ≡ true
  none_left zero h j low high = absurd (omega arith)
  none_left (suc n) h j low high = go (ℕ_discrete j (suc n)) (λ l. none_left n parts.1 j low l)
    where
      parts : (marked m net t net.nodes (suc n) ≡ true) × (all_marked m net t n ≡ true)
      parts = and_parts (marked m net t net.nodes (suc n)) (all_marked m net t n) h

      go : Dec (j ≡ suc n) → (j ≤ n → marked m net t net.nodes j ≡ true) → marked m net t net.nodes j ≡ true
      go (yes e) ih = subst (λ i. marked m net t net.nodes i ≡ true) (sym e) parts.0
      go (no e) ih = ih (omega arith)

  pub found_ring : WellFormed m net → 1 ≤ net.nodes → null_found m net t ≡ true → Ring m net t
  found_ring formed some h = go (all_marked m net t net.nodes) refl h
    where
      go : (b : Bool) → all_marked m net t net.nodes ≡ b → not b ≡ true → Ring m net t
      go true e q = absurd (false≢true q)
      go false e q = let l = some_left net.nodes e in behind_ring m net t formed l.node some (behind net.nodes l.node l.none)

  pub ring_found : WellFormed m net → Ring m net t → null_found m net t ≡ true
  ring_found formed r = go (all_marked m net t net.nodes) refl
    where
      go : (b : Bool) → all_marked m net t net.nodes ≡ b → not b ≡ true
      go false e = refl
      go true e =
          let p = formed r.last r.round.0 in
          absurd (ring_unmarked r net.nodes (none_left net.nodes e r.at (omega (arith, r.round.1, p.end_low)) (omega (arith, r.round.1, p.end_high))))

module _ {V : Type 0} {m : Algebra V} {net : Network V} {k s : ℕ} (laws : Laws m) (g : Within m net (suc k) s) where
  tells : (p : ℕ) → Settles m net (suc k) s (rows m net (suc k) s) p → TellsNulls m net s (rows m net (suc k) s p)
  tells zero h = absurd (omega (arith, h.second))
  tells (suc zero) h = absurd (omega (arith, h.second))
  tells (suc (suc q)) h = record {
    ring = to;
    ring_back = back;
    ranked = λ rank up n. ranked m net t rank up (to n);
    held = λ mark held j low high none. back (held_ring m net t g.formed mark held j low high none);
    found = λ e. back (found_ring laws net t g.formed (omega (arith, g.s_low, g.s_high)) e);
    found_back = λ n. ring_found laws net t g.formed (to n);
  }
    where
      t : Table V
      t = rows m net (suc k) s (suc (suc q))

      room : suc (suc q) * net.nodes * 10 ^ 9 + net.nodes * 10 ^ 9 ≤ 2 ^ 62
      room = let z = small laws g (suc (suc (suc q))) (omega (arith, h.in_time)) in omega arith

      none : ¬ NegativeCircuit m net s
      none = none_reached laws g q h.in_time h.unchanged

      all : (j : ℕ) (w : List ℕ) → Walk net s j w → Counted m net w → Covers m (suc k) (t j) (walk_length m net w)
      all = complete laws g q h.in_time h.unchanged

      to : NullCircuit m net s → Ring m net t
      to = null_ring laws net g.formed s k (suc (suc q) * net.nodes) g.s_low g.s_high none t room (sound laws g (suc (suc q))) all

      back : Ring m net t → NullCircuit m net s
      back = ring_null laws net g.formed s k (suc (suc q) * net.nodes) g.s_low g.s_high none t room (sound laws g (suc (suc q))) all

pub nulls_told : {V : Type 0} {m : Algebra V} → Laws m → NullsTold m
nulls_told laws net zero s g p e = absurd (omega (arith, g.k_low))
nulls_told laws net (suc k) s g p e = tells laws g p (settled_is laws net (suc k) s p e)
