-- The rows that the code makes are those of the definition.
use Rattle.std.proofs.Common.{◌≡◌, ℕ, zero, suc, ◌+◌, ◌*◌, ◌^◌, ◌<◌, ◌≤◌, Bool, true, false, cond, ◌||◌, ltb, ◌⊎◌, List, [], ◌∷◌, length, take, Some, None, Ordering, Less, Equal, Greater, sym, refl, ap, ◌∙◌, subst, inl, inr, arith}
use Rattle.std.proofs.lemmas.Bool.{cases_eq, ltb-true, ltb-false, le-leb, true≢false, false≢true}
use Rattle.measure.specs.Algebra.{Algebra, Laws, Before, Joinable}
use Rattle.walks.specs.Networks.{Network, WellFormed}
use Rattle.walks.specs.Rows.{Table, In, Covers, FirstOf}
use Rattle.walks.specs.Method.{choose, place, uses, place_all, offer, gather, work}
use Rattle.walks.specs.Runs.{Joined}
use Rattle.walks.proofs.Orders.{never, before_not, greater}
use Rattle.walks.proofs.Placing.{place_short, place_covers, place_keeps}
use Rattle.walks.proofs.Method.{Neat, Upto, uses_yes, first_upto, work_first, work_neat, put_there}
use Rattle.sweeps.specs.Tables.{row_of}
use Rattle.sweeps.specs.Places.{fresh}
use Rattle.sweeps.specs.Nodes.{Marked, stepped, carried, worked, over, node_row}
use Rattle.sweeps.specs.Passes.{RowsFill, Ready}

module _ {V : Type 0} {m : Algebra V} (laws : Laws m) where
  -- a value that is not fresh leaves the row
  fresh_no : (k : ℕ) (x : V) (row : List V) (room : Bool) → (room ≡ false → k ≤ length row) → length row ≤ k → fresh m room x row ≡ false → place m k x row ≡ row
  fresh_no zero x [] room full short h = refl
  fresh_no zero x (y ∷ ys) room full short h = absurd (omega arith)
  fresh_no (suc k) x [] room full short h = absurd (omega (arith, full h))
  fresh_no (suc k) x (y ∷ ys) room full short h = go (fresh_no k x ys room (λ e. omega (arith, full e)) (omega arith)) (m.compare x y) h
    where
      go : (fresh m room x ys ≡ false → place m k x ys ≡ ys) → (o : Ordering) → choose o true false (fresh m room x ys) ≡ false → choose o (x ∷ take k (y ∷ ys)) (y ∷ ys) (y ∷ place m k x ys) ≡ y ∷ ys
      go ih Less e = absurd (true≢false e)
      go ih Equal e = refl
      go ih Greater e = ap (λ l. y ∷ l) (ih e)

  -- one that is was not covered
  fresh_yes : (k : ℕ) (x : V) (row : List V) (room : Bool) → (room ≡ true → length row < k) → length row ≤ k → fresh m room x row ≡ true → Covers m k row x → ⊥
  fresh_yes zero x [] room free short h c = omega (arith, free h)
  fresh_yes zero x (y ∷ ys) room free short h c = omega arith
  fresh_yes (suc k) x [] room free short h c = c
  fresh_yes (suc k) x (y ∷ ys) room free short h c = go (fresh_yes k x ys room (λ e. omega (arith, free e)) (omega arith)) (m.compare x y) refl h c
    where
      go : (fresh m room x ys ≡ true → Covers m k ys x → ⊥) → (o : Ordering) → m.compare x y ≡ o → choose o true false (fresh m room x ys) ≡ true → (x ≡ y) ⊎ (Before m y x × Covers m k ys x) → ⊥
      go ih Less e f (inl same) = never laws y (subst (λ z. Before m z y) same e)
      go ih Less e f (inr d) = before_not laws x y e d.0
      go ih Equal e f d = false≢true f
      go ih Greater e f (inl same) = never laws y (subst (λ z. Before m y z) same (greater laws x y e))
      go ih Greater e f (inr d) = ih f d.1

  -- a row is as it was, or covers what it did not
  abbrev pub Since : ℕ → List V → List V → Bool → Type 0
  Since k old row false = row ≡ old
  Since k old row true = (x : V) × (Covers m k old x → ⊥) × Covers m k row x

  since_step : (k : ℕ) (old row : List V) (f : Bool) (y : V) → length row ≤ k → Since k old row f → Since k old (place m k y row) (f || fresh m (ltb (length row) k) y row)
  since_step k old row true y short h = (h.0, h.1, place_keeps laws k y row h.0 h.2)
  since_step k old row false y short h = go (fresh m (ltb (length row) k) y row) refl
    where
      go : (g : Bool) → fresh m (ltb (length row) k) y row ≡ g → Since k old (place m k y row) g
      go false e = fresh_no k y row (ltb (length row) k) (ltb-false (length row) k) short e ∙ h
      go true e = (y, (λ c. fresh_yes k y row (ltb (length row) k) (ltb-true (length row) k) short e (subst (λ r. Covers m k r y) (sym h) c)), place_covers laws k y row)

  pub since_tells : (k : ℕ) (old row : List V) → Since k old row true → row ≡ old → ⊥
  since_tells k old row h e = h.1 (subst (λ r. Covers m k r h.0) e h.2)

  abbrev pub Goes : ℕ → List V → Marked V → List V → Type 0
  Goes k old s row = (s.0 ≡ row) × Since k old row s.1

  step_goes : (k : ℕ) (x : V) (old row : List V) (s : Marked V) (a : V) → length row ≤ k → Joinable m a x → Goes k old s row → Goes k old (carried m k x s a) (place m k (m.plus a x) row)
  step_goes k x old row s a short fits h =
      let y : V = m.plus a x in
      let is : carried m k x s a ≡ stepped m k x y s = ap (λ b. elim (cond b (Some y) None) [ Some z ↦ stepped m k x z s | None ↦ s ]) (le-leb (m.magnitude a + m.magnitude x) (2 ^ 62) fits) in
      let first : place m k y s.0 ≡ place m k y row = ap (place m k y) h.0 in
      let second : Since k old (place m k y row) (s.1 || fresh m (ltb (length s.0) k) y s.0) = subst (λ z. Since k old (place m k y row) (s.1 || fresh m (ltb (length z) k) y z)) (sym h.0) (since_step k old row s.1 y short h.1) in
      subst (λ z. Goes k old z (place m k y row)) (sym is) (first, second)

  worked_goes : (net : Network V) (src k : ℕ) (x : V) (old : List V) (xs : List V) (row : List V) (s : Marked V) → length row ≤ k → ((a : V) → In a xs → Joinable m a x) → Goes k old s row
      → Goes k old (worked m k x s xs) (place_all m net k src xs x row)
  worked_goes net src k x old [] row s short fits h = h
  worked_goes net src k x old (a ∷ rest) row s short fits h =
      worked_goes net src k x old rest (place m k (m.plus a x) row) (carried m k x s a) (place_short laws k (m.plus a x) row short) (λ b i. fits b (inr i))
      (step_goes k x old row s a short (fits a (inl refl)) h)

module _ {V : Type 0} {m : Algebra V} (laws : Laws m) (net : Network V) (k s : ℕ) (formed : WellFormed m net) where
  neat_of : (b : ℕ) (t : Table V) → Ready m k b t → Neat m net k s t
  neat_of b t r = record { up = r.up; short = r.short }

  module _ (b : ℕ) (room : b + 1 ≤ 10 ^ 9) (t : Table V) (ready : Ready m k b t) (down : Bool) (j : ℕ) where
    pub work_ready : Ready m k (b + 1) (work m net k s down t j)
    work_ready = record {
      up = (work_neat laws net k s down t j (neat_of b t ready)).up;
      short = (work_neat laws net k s down t j (neat_of b t ready)).short;
      light = λ i x h. elim (cases_eq i j) [
        | inl e ↦ here x ((work_first laws net k s down t (neat_of b t ready) j).from x (subst (λ z. In x (work m net k s down t j z)) e h))
        | inr ne ↦ omega (arith, ready.light i x (subst (In x) (put_there t j (gather m net k s down t j net.arcs) i ne) h))
      ];
    }
      where
        here : (x : V) → In x (t j) ⊎ Joined m net k s down t j x → m.magnitude x ≤ (b + 1) * 10 ^ 9
        here x (inl i) = omega (arith, ready.light j x i)
        here x (inr q) =
            let p = formed q.arc q.is_open in
            let l = ready.light _ q.old q.there in
            let c = laws.subadditive q.old (net.arc_length q.arc) (omega (arith, p.small)) in
            omega (arith, p.small, ap m.magnitude q.sum)

    module _ (v : List V) (c : List ℕ) (are : RowsFill m net.nodes k v c t) (one : 1 ≤ j) (le : j ≤ net.nodes) where
      pub node_goes : (a : ℕ) → a ≤ net.arcs → Goes laws k (t j) (node_row m net k down j v c a) (gather m net k s down t j a)
      node_goes zero below = (are.at j one le, refl)
      node_goes (suc a) below = go (uses net down j (suc a)) refl (node_goes a (omega arith)) (first_upto laws net k s down t (neat_of b t ready) j a (omega arith))
        where
          go : (d : Bool) → uses net down j (suc a) ≡ d → Goes laws k (t j) (node_row m net k down j v c a) (gather m net k s down t j a)
              → FirstOf m k (λ x. In x (t j) ⊎ Upto laws net k s down t (neat_of b t ready) j a x) (gather m net k s down t j a)
              → Goes laws k (t j) (over m net k down j v c (node_row m net k down j v c a) (suc a))
              (offer m net k s d (t (net.start (suc a))) (net.arc_length (suc a)) (gather m net k s down t j a))
          go true e ih f =
              let u = uses_yes net down j (suc a) (omega arith) below e in
              let p = formed (suc a) u.is_open in
              let row : Marked V = node_row m net k down j v c a in
              let from : List V = t (net.start (suc a)) in
              let x : V = net.arc_length (suc a) in
              let same : worked m k x row from ≡ over m net k down j v c row (suc a) =
              ap (worked m k x row) (sym (are.at (net.start (suc a)) p.start_low p.start_high))
              ∙ ap (λ z. cond z (worked m k x row (row_of k (net.start (suc a)) v c)) row) (sym e) in
              subst (λ z. Goes laws k (t j) z (place_all m net k s from x (gather m net k s down t j a))) same
              (worked_goes laws net s k x (t j) from (gather m net k s down t j a) row f.short (λ y i. omega (arith, p.small, ready.light _ y i)) ih)
          go false e ih f =
              let row : Marked V = node_row m net k down j v c a in
              let x : V = net.arc_length (suc a) in
              let same : row ≡ over m net k down j v c row (suc a) = ap (λ z. cond z (worked m k x row (row_of k (net.start (suc a)) v c)) row) (sym e) in
              subst (λ z. Goes laws k (t j) z (gather m net k s down t j a)) same ih
