-- The places of a row, as the tables hold it.
use Rattle.std.proofs.Common.{◌≡◌, ℕ, zero, suc, ◌+◌, ◌-◌, ◌*◌, ◌<◌, ◌≤◌, List, length, get_or, drop, Some, None, Ok, Option, Bor, refl, sym, ap, ◌∙◌, mul-le-mul_right, arith, length-drop, length-take, get_or-drop, get_or-take}
use Rattle.std.proofs.lemmas.Option.{slice_get-get_or, slice_get_past, slice_get_read}
use Rattle.std.proofs.lemmas.Bool.Decides.{nat_tests}
use Rattle.std.specs.List.{slice_get}
use Rattle.std.specs.Option.{option_copied}
use Rattle.std.specs.Slice.{IsItemAt}
use Rattle.measure.specs.Algebra.{Algebra}
use Rattle.walks.specs.Rows.{Table}
use Rattle.sweeps.specs.Tables.{RowsHeld, start_of, cells, count_of, row_of}
use Rattle.session.specs.Drafts.{judged}
use Rattle.session.specs.Settled.{length_verdict, length_answer}

-- a row's cells lie within its table
pub row_within : (n k j : ℕ) → 1 ≤ j → j ≤ n → start_of k j + k ≤ n * k
row_within n k zero low high = absurd (omega arith)
row_within n k (suc j) low high =
    let e : (suc j - 1) * k ≡ j * k = ap (λ i. i * k) (let z : suc j - 1 ≡ j = omega arith in z) in
    let f : suc j * k ≡ j * k + k = omega arith in
    omega (arith, mul-le-mul_right k high)

pub copied_at : {V : Type 0} (xs : List V) (i : ℕ) (r : Option (Bor V)) → IsItemAt xs i r → option_copied r ≡ slice_get xs i
copied_at xs i None h = sym (slice_get_past xs i h.3)
copied_at xs i (Some x) h = sym (slice_get_read xs (length xs) i x.now refl h.3.0 h.1)

module _ {V : Type 0} (m : Algebra V) (n k : ℕ) (values : List V) (counts : List ℕ) (t : Table V) (h : RowsHeld m n k values counts t) (j : ℕ) (low : 1 ≤ j) (high : j ≤ n) where
  row_length : length (row_of k j values counts) ≡ count_of counts j
  row_length =
      let a = length-take (count_of counts j) (cells k j values) in
      let b = length-take k (drop (start_of k j) values) in
      let c = length-drop (start_of k j) values in
      let s = h.short j low high in
      let w = row_within n k j low high in
      let v = h.value_cells in
      omega arith

  pub past_row : (place : ℕ) → count_of counts j < place → None ≡ slice_get (t j) (place - 1)
  past_row place lt = sym (slice_get_past (t j) (place - 1) (omega (arith, row_length, ap length (h.at j low high))))

  pub in_row : (place : ℕ) → 1 ≤ place → place ≤ count_of counts j → slice_get values (start_of k j + (place - 1)) ≡ slice_get (t j) (place - 1)
  in_row place one le =
      let s = h.short j low high in
      let i = place - 1 in
      let there : get_or (row_of k j values counts) i m.null ≡ get_or values (start_of k j + i) m.null =
      get_or-take (count_of counts j) (cells k j values) i m.null (omega arith) ∙ get_or-take k (drop (start_of k j) values) i m.null (omega arith) ∙ get_or-drop (start_of k j) values i m.null in
      slice_get-get_or values (start_of k j + i) m.null (omega (arith, row_within n k j low high, h.value_cells)) ∙ ap Some (sym there) ∙ sym (slice_get-get_or (row_of k j values counts) i m.null (omega (arith, row_length)))
      ∙ ap (λ row. slice_get row i) (h.at j low high)

-- the answer at a node and a place that there are
pub answered : {V : Type 0} (m : Algebra V) (n k : ℕ) (t : Table V) (node place : ℕ) → 1 ≤ node → node ≤ n → 1 ≤ place → place ≤ k → Ok (slice_get (t node) (place - 1)) ≡ length_answer m n k t node place
answered m n k t node place node_low node_high low high =
    let v : length_verdict n k node place ≡ None = grind (arith, nat_tests) in
    ap (λ o. judged o (slice_get (t node) (place - 1))) (sym v)
