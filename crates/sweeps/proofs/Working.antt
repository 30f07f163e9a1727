-- What working over an arc keeps from length to length.
use Rattle.std.proofs.Common.{◌≡◌, ℕ, ◌+◌, ◌-◌, ◌*◌, ◌<◌, ◌≤◌, Bool, ◌||◌, ltb, ◌⊎◌, List, [], ◌∷◌, length, get_or, take, drop, Some, None, Option, sym, ap, ◌∙◌, subst, inl, inr, mul-le-mul_right, add-mul, one-mul, arith, length-drop, length-take}
use borrow.Rule.Slice.PartMut.{put_mid}
use Rattle.std.proofs.lemmas.List.{get_or-take, get_or-drop, drop-drop}
use Rattle.std.proofs.lemmas.Bool.{cases_lt}
use Rattle.std.proofs.lemmas.List.Sums.{fold_more}
use Rattle.std.proofs.lemmas.Slice.{take-put_mid_below, drop-put_mid, between-put_mid}
use Rattle.measure.specs.Algebra.{Algebra, Laws, joined}
use Rattle.walks.specs.Rows.{Ascending}
use Rattle.walks.specs.Method.{place}
use Rattle.walks.proofs.Placing.{place_ascending}
use Rattle.sweeps.specs.Tables.{start_of, cells}
use Rattle.sweeps.specs.Places.{fresh, RowPlaced}
use Rattle.sweeps.specs.Nodes.{Marked, stepped, carried, worked, ArcWorked, TwoRows}

pub row_end : (k i : ℕ) → 1 ≤ i → start_of k i + k ≡ i * k
row_end k i le =
    let e : i - 1 + 1 ≡ i = omega arith in
    sym (ap (λ n. n * k) (sym e) ∙ add-mul (i - 1) 1 k ∙ ap (λ n. start_of k i + n) (one-mul k))

pub row_below : (k i j : ℕ) → 1 ≤ i → i < j → start_of k i + k ≤ start_of k j
row_below k i j one lt =
    let le : i ≤ j - 1 = omega arith in
    omega (arith, row_end k i one, mul-le-mul_right k le)

pub apart_cases : (i j : ℕ) → ¬ (i ≡ j) → (i < j) ⊎ (j < i)
apart_cases i j ne = elim (cases_lt i j) [ inl l ↦ inl l | inr g ↦ inr (omega arith) ]

module _ {V : Type 0} where
  kept_below : (s n : ℕ) (v v' : List V) (a : V) → n < s → take s v' ≡ take s v → get_or v' n a ≡ get_or v n a
  kept_below s n v v' a lt e = sym (get_or-take s v' n a lt) ∙ ap (λ z. get_or z n a) e ∙ get_or-take s v n a lt

  kept_above : (s n : ℕ) (v v' : List V) (a : V) → s ≤ n → drop s v' ≡ drop s v → get_or v' n a ≡ get_or v n a
  kept_above s n v v' a le e =
      let f : s + (n - s) ≡ n = omega arith in
      ap (λ k. get_or v' k a) (sym f) ∙ sym (get_or-drop s v' (n - s) a) ∙ ap (λ z. get_or z (n - s) a) e ∙ get_or-drop s v (n - s) a ∙ ap (λ k. get_or v k a) f

  -- the cell p of row i is as it was, when only row j was written
  pub other_row : (k i j p : ℕ) (v v' : List V) (a : V) → 1 ≤ i → 1 ≤ j → ¬ (i ≡ j) → p < k
      → take (start_of k j) v' ≡ take (start_of k j) v → drop (start_of k j + k) v' ≡ drop (start_of k j + k) v
      → get_or v' (start_of k i + p) a ≡ get_or v (start_of k i + p) a
  other_row k i j p v v' a oi oj ne lt before after =
      elim (apart_cases i j ne) [
        | inl l ↦ kept_below (start_of k j) (start_of k i + p) v v' a (omega (arith, row_below k i j oi l)) before
        | inr g ↦ kept_above (start_of k j + k) (start_of k i + p) v v' a (omega (arith, row_below k j i oj g)) after
      ]

  pub cell_of : (k i p : ℕ) (v : List V) (a : V) → p < k → get_or (cells k i v) p a ≡ get_or v (start_of k i + p) a
  cell_of k i p v a lt = get_or-take k (drop (start_of k i) v) p a lt ∙ get_or-drop (start_of k i) v p a

  pub cells_long : (k i : ℕ) (v : List V) → 1 ≤ i → i * k ≤ length v → length (cells k i v) ≡ k
  cells_long k i v one le = length-take k (drop (start_of k i) v) ∙ (simp length-drop (omega (arith, row_end k i one)))

module _ {V : Type 0} {m : Algebra V} (laws : Laws m) (k : ℕ) (x : V) where
  carried_up : (row : Marked V) (o : Option V) → Ascending m row.0 → Ascending m (elim o as (λ z. Marked V) [ Some y ↦ stepped m k x y row | None ↦ row ]).0
  carried_up row (Some y) up = place_ascending laws k y row.0 up
  carried_up row None up = up

  -- a row that ascends does so when it has been worked on
  pub worked_up : (row : Marked V) (xs : List V) → Ascending m row.0 → Ascending m (worked m k x row xs).0
  worked_up row [] up = up
  worked_up row (a ∷ xs) up = worked_up (carried m k x row a) xs (carried_up row (joined m a x) up)

module _ {V : Type 0} (m : Algebra V) (k i held j count : ℕ) (was : Bool) (x : V) (v0 : List V) (two : TwoRows k i held j count (length v0)) where
  -- the length that is read is the one that row i held at first
  next_of : (p total : ℕ) (changed : Bool) (v : List V) (a : V) → Ascending m (take count (cells k j v0)) → p < held → ArcWorked m k i p j count was x v0 v total changed → a ≡ get_or v (start_of k i + p) a
      → worked m k x (take count (cells k j v0), was) (take (p + 1) (cells k i v0)) ≡ carried m k x (take total (cells k j v), changed) a
  next_of p total changed v a up lt h read =
      let below : p < k = omega (arith, two.from_held) in
      let long : p < length (cells k i v0) = omega (arith, cells_long k i v0 two.from_one two.from_in) in
      let is : get_or (cells k i v0) p a ≡ a = cell_of k i p v0 a below ∙ sym (other_row k i j p v0 v a two.from_one two.to_one two.apart below h.before h.after) ∙ sym read in
      fold_more (carried m k x) (take count (cells k j v0), was) (cells k i v0) p a long
      ∙ ap (λ r. carried m k x r (get_or (cells k i v0) p a)) (sym (h.lengths up))
      ∙ ap (λ z. carried m k x (take total (cells k j v), changed) z) is

  pub worked_none : (p total : ℕ) (changed : Bool) (v : List V) (a : V) → p < held → ArcWorked m k i p j count was x v0 v total changed → a ≡ get_or v (start_of k i + p) a
      → joined m a x ≡ None → ArcWorked m k i (p + 1) j count was x v0 v total changed
  worked_none p total changed v a lt h read absent =
      record {
        bound = h.bound;
        grows = h.grows;
        lengths = λ up. sym (next_of p total changed v a up lt h read ∙ ap (λ (o : Option V). elim o [ Some y ↦ stepped m k x y (take total (cells k j v), changed) | None ↦ (take total (cells k j v), changed) ]) absent);
        rest = h.rest;
        size = h.size;
        before = h.before;
        after = h.after;
      }

  pub worked_some : (p total : ℕ) (changed : Bool) (v : List V) (a y : V) (n : ℕ) (row' : List V) (total' : ℕ) (changed' : Bool) (next : ℕ) → Laws m → p < held → ArcWorked m k i p j count was x v0 v total changed → a ≡ get_or v (start_of k i + p) a
      → joined m a x ≡ Some y → n ≡ k → length (put_mid (start_of k j) n v row') ≡ length v → length row' ≡ length (take n (drop (start_of k j) v)) → RowPlaced m (take n (drop (start_of k j) v)) total changed y row' total' changed' next
      → ArcWorked m k i (p + 1) j count was x v0 (put_mid (start_of k j) n v row') total' changed'
  worked_some p total changed v a y n row' total' changed' next laws lt h read present whole size size' put =
      let s : ℕ = start_of k j in
      let v' : List V = put_mid s n v row' in
      let row : List V = take n (drop s v) in
      let row_is : row ≡ cells k j v = ap (λ z. take z (drop s v)) whole in
      let end : s + k ≡ j * k = row_end k j two.to_one in
      let inside : s ≤ length v = omega (arith, two.to_in, h.size) in
      let long : length row ≡ k = ap length row_is ∙ cells_long k j v two.to_one (omega (arith, two.to_in, h.size)) in
      let long' : length row' ≡ k = size' ∙ long in
      let held_is : length (take total (cells k j v)) ≡ total = length-take total (cells k j v) ∙ omega (arith, ap length row_is, h.bound) in
      let span : s + k - s ≡ k = omega arith in
      let now_is : cells k j v' ≡ row' = ap (λ z. take z (drop s v')) (sym span) ∙ between-put_mid s n v row' (s + k) inside (long' ∙ sym span) in
      let e : total + (total' - total) ≡ total' = omega (arith, put.grows) in
      let up_now : Ascending m (take count (cells k j v0)) → Ascending m (take total row) = λ up.
      subst (λ z. Ascending m (take total z)) (sym row_is) (subst (Ascending m) (sym (ap (λ (z : Marked V). z.0) (h.lengths up))) (worked_up laws k x (take count (cells k j v0), was) (take p (cells k i v0)) up)) in
      record {
        grows = omega (arith, h.grows, put.grows);
        bound = omega (arith, put.bound);
        lengths = λ up. ap (λ (z : List V). (z, changed')) (ap (take total') now_is ∙ put.lengths (up_now up)
            ∙ ap (λ z. place m z y (take total row)) long
            ∙ ap (λ z. place m k y (take total z)) row_is)
            ∙ ap (λ (b : Bool). (place m k y (take total (cells k j v)), b)) (put.flag (up_now up)
            ∙ ap (λ z. changed || fresh m (ltb total z) y (take total row)) long
            ∙ ap (λ z. changed || fresh m (ltb total k) y (take total z)) row_is
            ∙ ap (λ z. changed || fresh m (ltb z k) y (take total (cells k j v))) (sym held_is))
            ∙ sym (next_of p total changed v a up lt h read ∙ ap (λ (o : Option V). elim o [ Some z ↦ stepped m k x z (take total (cells k j v), changed) | None ↦ (take total (cells k j v), changed) ]) present);
        rest = ap (drop total') now_is ∙ put.rest ∙ ap (drop total') row_is
            ∙ ap (λ z. drop z (cells k j v)) (sym e) ∙ sym (drop-drop (total' - total) total (cells k j v))
            ∙ ap (drop (total' - total)) h.rest ∙ drop-drop (total' - total) total (cells k j v0) ∙ ap (λ z. drop z (cells k j v0)) e;
        size = size ∙ h.size;
        before = take-put_mid_below s n v row' s (omega arith) inside ∙ h.before;
        after = drop-put_mid s n v row' (s + k) (omega arith) inside (long' ∙ sym whole) ∙ h.after;
      }
