-- Rows in the first cells of larger tables, and cleared rows.
use Rattle.std.proofs.Common.{◌≡◌, ℕ, ◌+◌, ◌-◌, ◌*◌, ◌≤◌, List, [], ◌++◌, length, get_or, take, drop, replicate, sym, refl, ap, ◌∙◌, subst, arith, length-take}
use lib.ListN.{length-replicate}
use Rattle.std.proofs.lemmas.List.{get_or-take, drop-take, take-take, take_at, get_or-replicate, take-replicate, drop-replicate}
use Rattle.measure.specs.Algebra.{Algebra}
use Rattle.walks.specs.Rows.{Table}
use Rattle.sweeps.specs.Tables.{start_of, cells, count_of, row_of, RowsHeld, Cleared}
use Rattle.session.proofs.Reading.{row_within}
use Rattle.journal.specs.Performs.{rows_read}

-- the cells of a row that ends within the first N
front_cells : {X : Type 0} (N k i : ℕ) (xs : List X) → i + k ≤ N → take k (drop i (take N xs)) ≡ take k (drop i xs)
front_cells N k i xs room =
    let e : i + (N - i) ≡ N = omega arith in
    ap (λ z. take k (drop i (take z xs))) (sym e) ∙ ap (take k) (drop-take i (N - i) xs) ∙ take-take k (N - i) (drop i xs) (omega arith)

front_count : (C j : ℕ) (xs : List ℕ) → 1 ≤ j → j ≤ C → count_of (take C xs) j ≡ count_of xs j
front_count C j xs low high = get_or-take C xs (j - 1) 0 (omega arith)

-- a row as it is read in the first cells
pub front_row : {V : Type 0} (N C n k j : ℕ) (values : List V) (counts : List ℕ) → n * k ≤ N → n ≤ C → 1 ≤ j → j ≤ n → row_of k j (take N values) (take C counts) ≡ row_of k j values counts
front_row N C n k j values counts wide high low le =
    ap (λ z. take z (cells k j (take N values))) (front_count C j counts low (omega arith))
    ∙ ap (take (count_of counts j)) (front_cells N k (start_of k j) values (omega (arith, row_within n k j low le)))

module _ {V : Type 0} (m : Algebra V) (n k : ℕ) where
  -- rows that the first cells hold are held by the whole tables
  pub held_front : (N C : ℕ) (values : List V) (counts : List ℕ) (t : Table V) → RowsHeld m n k (take N values) (take C counts) t → RowsHeld m n k values counts t
  held_front N C values counts t h =
      let a = h.value_cells in
      let b = length-take N values in
      let c = h.count_cells in
      let d = length-take C counts in
      let wide : n * k ≤ N = omega arith in
      let high : n ≤ C = omega arith in
      record {
        value_cells = omega arith;
        count_cells = omega arith;
        short = λ j one le. omega (arith, h.short j one le, front_count C j counts one (omega arith));
        at = λ j one le. sym (front_row N C n k j values counts wide high one le) ∙ h.at j one le;
        past = λ j one le.
            let i = front_count C j counts one (omega arith) in
            let e = front_cells N k (start_of k j) values (omega (arith, row_within n k j one le)) in
            ap (λ z. drop z (cells k j values)) (sym i) ∙ ap (drop (count_of (take C counts) j)) (sym e) ∙ h.past j one le ∙ ap (λ z. replicate (k - z) m.null) i;
      }

  -- the same, where the first cells were written and the others follow
  pub held_before : (values past : List V) (counts past_counts : List ℕ) (t : Table V) → RowsHeld m n k values counts t → RowsHeld m n k (values ++ past) (counts ++ past_counts) t
  held_before values past counts past_counts t h =
      held_front (length values) (length counts) (values ++ past) (counts ++ past_counts) t
      (subst (λ v. RowsHeld m n k v (take (length counts) (counts ++ past_counts)) t) (sym (take_at values past (length values) refl))
      (subst (λ c. RowsHeld m n k values c t) (sym (take_at counts past_counts (length counts) refl)) h))

  -- cleared tables hold empty rows
  pub cleared_held : (values : List V) (counts : List ℕ) → Cleared m (n * k) n (take (n * k) values) (take n counts) → RowsHeld m n k values counts (λ j. [])
  cleared_held values counts h =
      let a = ap length h.null_values ∙ length-replicate (n * k) m.null in
      let b = length-take (n * k) values in
      let c = ap length h.no_counts ∙ length-replicate n 0 in
      let d = length-take n counts in
      let none : (j : ℕ) → 1 ≤ j → j ≤ n → count_of counts j ≡ 0 =
      λ j one le. sym (front_count n j counts one le) ∙ ap (λ z. get_or z (j - 1) 0) h.no_counts ∙ get_or-replicate n (j - 1) 0 0 (omega arith) in
      let blank : (j : ℕ) → 1 ≤ j → j ≤ n → cells k j values ≡ replicate k m.null =
      λ j one le.
      let w = row_within n k j one le in
      sym (front_cells (n * k) k (start_of k j) values w) ∙ ap (λ z. take k (drop (start_of k j) z)) h.null_values
      ∙ ap (take k) (drop-replicate (start_of k j) (n * k) m.null) ∙ take-replicate k (n * k - start_of k j) m.null (omega arith) in
      record {
        value_cells = omega arith;
        count_cells = omega arith;
        short = λ j one le. omega (arith, none j one le);
        at = λ j one le. ap (λ z. take z (cells k j values)) (none j one le);
        past = λ j one le. ap (λ z. drop z (cells k j values)) (none j one le) ∙ blank j one le ∙ ap (λ z. replicate z m.null) (let z : k ≡ k - 0 = omega arith in z) ∙ ap (λ z. replicate (k - z) m.null) (sym (none j one le));
      }

  -- the rows as they are read off the tables that hold them
  pub reread : (values : List V) (counts : List ℕ) (t : Table V) → RowsHeld m n k values counts t → RowsHeld m n k values counts (rows_read n k values counts)
  reread values counts t h = record {
    value_cells = h.value_cells;
    count_cells = h.count_cells;
    short = h.short;
    at = λ j one le. sym (front_row (n * k) n n k j values counts (omega arith) (omega arith) one le);
    past = h.past;
  }

  -- and they are the same rows
  pub reads : (values : List V) (counts : List ℕ) (t : Table V) → RowsHeld m n k values counts t → (j : ℕ) → 1 ≤ j → j ≤ n → rows_read n k values counts j ≡ t j
  reads values counts t h j one le = front_row (n * k) n n k j values counts (omega arith) (omega arith) one le ∙ h.at j one le
