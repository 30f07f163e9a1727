-- How a solve ends, in words.
use Rattle.std.proofs.Common.{◌≡◌, ℕ, zero, suc, ◌+◌, ◌-◌, ◌<◌, ◌≤◌, Bool, true, false, List, [], ◌∷◌, Ordering, Less, Equal, Greater, sym, refl, ap, ◌∙◌, subst, arith}
use native.Mathlib.Decide.{dec_lt, ℕ_discrete}
use Rattle.std.proofs.lemmas.Bool.{and_parts, and_from, false≢true}
use Rattle.measure.specs.Algebra.{Algebra, Laws}
use Rattle.walks.specs.Networks.{Network}
use Rattle.walks.specs.Rows.{Table}
use Rattle.walks.specs.Method.{choose, rows}
use Rattle.walks.specs.Solves.{Outcome, settled, refused, ends, same_row, same_rows, quiet, solve_from, last_pass, outcome}
use Rattle.walks.specs.Runs.{Run, Unchanged, Settles, NeverSettles}
use Rattle.walks.specs.Theorems.{MethodInWords}
use Rattle.walks.proofs.Method.{rows_run}
use Rattle.walks.proofs.Once.{rows_once}

module _ {V : Type 0} {m : Algebra V} (laws : Laws m) where
  row_is : (xs ys : List V) → same_row m xs ys ≡ true → xs ≡ ys
  row_is [] [] h = refl
  row_is [] (y ∷ ys) h = absurd (false≢true h)
  row_is (x ∷ xs) [] h = absurd (false≢true h)
  row_is (x ∷ xs) (y ∷ ys) h = go (m.compare x y) refl (row_is xs ys) h
    where
      go : (o : Ordering) → m.compare x y ≡ o → (same_row m xs ys ≡ true → xs ≡ ys) → choose o false (same_row m xs ys) false ≡ true → x ∷ xs ≡ y ∷ ys
      go Less e ih q = absurd (false≢true q)
      go Equal e ih q = let a = laws.same x y e in let b = ih q in cc
      go Greater e ih q = absurd (false≢true q)

  row_self : (xs : List V) → same_row m xs xs ≡ true
  row_self [] = refl
  row_self (x ∷ xs) = ap (λ o. choose o false (same_row m xs xs) false) (laws.same_self x) ∙ row_self xs

  pub rows_are : (n : ℕ) (t u : Table V) → same_rows m n t u ≡ true → (j : ℕ) → 1 ≤ j → j ≤ n → t j ≡ u j
  rows_are zero t u h j low high = absurd (omega arith)
  rows_are (suc n) t u h j low high = go (ℕ_discrete j (suc n)) (λ l. rows_are n t u parts.1 j low l)
    where
      parts : (same_row m (t (suc n)) (u (suc n)) ≡ true) × (same_rows m n t u ≡ true)
      parts = and_parts (same_row m (t (suc n)) (u (suc n))) (same_rows m n t u) h

      go : Dec (j ≡ suc n) → (j ≤ n → t j ≡ u j) → t j ≡ u j
      go (yes e) ih = subst (λ i. t i ≡ u i) (sym e) (row_is (t (suc n)) (u (suc n)) parts.0)
      go (no e) ih = ih (omega arith)

  pub are_rows : (n : ℕ) (t u : Table V) → ((j : ℕ) → 1 ≤ j → j ≤ n → t j ≡ u j) → same_rows m n t u ≡ true
  are_rows zero t u h = refl
  are_rows (suc n) t u h =
      and_from (same_row m (t (suc n)) (u (suc n))) (same_rows m n t u)
      (subst (λ row. same_row m (t (suc n)) row ≡ true) (h (suc n) (omega arith) (omega arith)) (row_self (t (suc n))))
      (are_rows n t u (λ j l q. h j l (omega arith)))

  module _ (net : Network V) (k s : ℕ) where
    abbrev R : ℕ → Table V
    R = rows m net k s

    pub quiet_yes : (p : ℕ) → quiet m net k s p ≡ true → Unchanged net R (suc p)
    quiet_yes p h = rows_are net.nodes (R (suc p)) (R p) h

    pub quiet_no : (p : ℕ) → quiet m net k s p ≡ false → ¬ Unchanged net R (suc p)
    quiet_no p h u = false≢true (sym h ∙ are_rows net.nodes (R (suc p)) (R p) u)

    -- how the passes after pass q end, if so many are left
    pub data Ending (q left : ℕ) (o : Outcome) : Type 0 where
      at_rest : (p : ℕ) → o ≡ settled p → q < p → p ≤ q + left → Unchanged net R p → ((i : ℕ) → q < i → i < p → ¬ Unchanged net R i) → Ending q left o
      at_end : o ≡ refused → ((i : ℕ) → q < i → i ≤ q + left → ¬ Unchanged net R i) → Ending q left o

    pub ending : (left q : ℕ) → Ending q left (solve_from m net k s q left)
    ending zero q = at_end refl (λ i l r. absurd (omega arith))
    ending (suc left) q = go (quiet m net k s q) refl (ending left (suc q))
      where
        first : ¬ Unchanged net R (suc q) → (i : ℕ) → q < i → ((suc q < i) → ¬ Unchanged net R i) → ¬ Unchanged net R i
        first h i l later = by (ℕ_discrete i (suc q))
          where
            by : Dec (i ≡ suc q) → ¬ Unchanged net R i
            by (yes e) = subst (λ z. ¬ Unchanged net R z) (sym e) h
            by (no e) = later (omega arith)

        move : (o : Outcome) → ¬ Unchanged net R (suc q) → Ending (suc q) left o → Ending q (suc left) o
        move o h (at_rest p e l r u f) = at_rest p e (omega arith) (omega arith) u (λ i a b. first h i a (λ c. f i c b))
        move o h (at_end e f) = at_end e (λ i a b. first h i a (λ c. f i c (omega arith)))

        go : (b : Bool) → quiet m net k s q ≡ b → Ending (suc q) left (solve_from m net k s (suc q) left) → Ending q (suc left) (ends b (settled (suc q)) (solve_from m net k s (suc q) left))
        go true e ih = at_rest (suc q) refl (omega arith) (omega arith) (quiet_yes q e) (λ i a b. absurd (omega arith))
        go false e ih = move (solve_from m net k s (suc q) left) (quiet_no q e) ih

    ended : Ending 1 (last_pass m net k s - 1) (outcome m net k s)
    ended = ending (last_pass m net k s - 1) 1

    pub settled_is : (p : ℕ) → outcome m net k s ≡ settled p → Settles m net k s R p
    settled_is p h = go ended
      where
        go : Ending 1 (last_pass m net k s - 1) (outcome m net k s) → Settles m net k s R p
        go (at_rest q e l r u f) =
            let same : q ≡ p = cc in
            subst (Settles m net k s R) same (record { second = omega arith; in_time = omega arith; unchanged = u; first = λ i a b. f i (omega arith) b })
        go (at_end e f) = let z : ◌≡◌ {A = ℕ} 0 1 = cc in absurd (omega arith)

    pub refused_is : outcome m net k s ≡ refused → NeverSettles m net k s R
    refused_is h = go ended
      where
        go : Ending 1 (last_pass m net k s - 1) (outcome m net k s) → NeverSettles m net k s R
        go (at_rest q e l r u f) = let z : ◌≡◌ {A = ℕ} 0 1 = cc in absurd (omega arith)
        go (at_end e f) = λ p a b. f p (omega arith) (omega arith)

    pub is_settled : (p : ℕ) → Settles m net k s R p → outcome m net k s ≡ settled p
    is_settled p h = go ended
      where
        go : Ending 1 (last_pass m net k s - 1) (outcome m net k s) → outcome m net k s ≡ settled p
        go (at_rest q e l r u f) = by (dec_lt p q) (dec_lt q p)
          where
            by : Dec (p < q) → Dec (q < p) → outcome m net k s ≡ settled p
            by (yes a) d = absurd (f p (omega (arith, h.second)) a h.unchanged)
            by (no a) (yes b) = absurd (h.first q (omega arith) b u)
            by (no a) (no b) = e ∙ ap settled (omega arith)
        go (at_end e f) = absurd (f p (omega (arith, h.second)) (omega (arith, h.in_time)) h.unchanged)

    pub is_refused : NeverSettles m net k s R → outcome m net k s ≡ refused
    is_refused h = go ended
      where
        go : Ending 1 (last_pass m net k s - 1) (outcome m net k s) → outcome m net k s ≡ refused
        go (at_rest q e l r u f) = absurd (h q (omega arith) (omega arith) u)
        go (at_end e f) = e

-- the same is told by rows that agree
module _ {V : Type 0} (net : Network V) (one other : ℕ → Table V) (same : (p j : ℕ) → one p j ≡ other p j) where
  unchanged_as : (p : ℕ) → Unchanged net one p → Unchanged net other p
  unchanged_as zero u = u
  unchanged_as (suc p) u = λ j a b. sym (same (suc p) j) ∙ u j a b ∙ same p j

module _ {V : Type 0} (m : Algebra V) (net : Network V) (k s : ℕ) (one other : ℕ → Table V) (same : (p j : ℕ) → one p j ≡ other p j) where
  settles_as : (p : ℕ) → Settles m net k s one p → Settles m net k s other p
  settles_as p h =
      record { second = h.second; in_time = h.in_time; unchanged = unchanged_as net one other same p h.unchanged; first = λ q a b u. h.first q a b (unchanged_as net other one (λ i j. sym (same i j)) q u) }

  never_as : NeverSettles m net k s one → NeverSettles m net k s other
  never_as h p a b u = h p a b (unchanged_as net other one (λ i j. sym (same i j)) p u)

pub method_in_words : {V : Type 0} {m : Algebra V} → Laws m → MethodInWords m
method_in_words {V} {m} laws net k s formed pos = record {
  is_run = rows_run laws net k s formed pos;
  only_one = rows_once laws net formed k s;
  settles = λ run r p. (λ e. settles_as m net k s (rows m net k s) run (agree run r) p (settled_is laws net k s p e), λ h. is_settled laws net k s p (settles_as m net k s run (rows m net k s) (λ i j. sym (agree run r i j)) p h));
  refuses = λ run r. (λ e. never_as m net k s (rows m net k s) run (agree run r) (refused_is laws net k s e), λ h. is_refused laws net k s (never_as m net k s run (rows m net k s) (λ i j. sym (agree run r i j)) h));
}
  where
    agree : (run : ℕ → Table V) → Run m net k s run → (p j : ℕ) → rows m net k s p j ≡ run p j
    agree run r = rows_once laws net formed k s (rows m net k s) run (rows_run laws net k s formed pos) r
