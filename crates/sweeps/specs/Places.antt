-- Placing a length in a row of cells.
use Rattle.std.specs.Prelude.{◌≡◌, ℕ, ◌-◌, ◌≤◌, Bool, true, false, cond, ◌&&◌, ◌||◌, List, [], ◌∷◌, length, take, drop, nat_lt, slice_index_or}
use Rattle.std.specs.Ordering.{is_gt}
use Rattle.measure.specs.Algebra.{Algebra}
use Rattle.walks.specs.Rows.{Ascending}
use Rattle.walks.specs.Method.{choose, place}

module _ {V : Type 0} (m : Algebra V) where
  -- whether placing x changes the row, which has room for another value or not
  abbrev pub fresh : Bool → V → List V → Bool
  fresh room x [] = room
  fresh room x (y ∷ ys) = choose (m.compare x y) true false (fresh room x ys)

  -- the first cell to compare x with: the one at `from` if x comes after the cell before it, else the very first
  abbrev pub first_cell : List V → ℕ → V → ℕ
  first_cell row from x = cond (nat_lt 0 from && is_gt (m.compare x (slice_index_or row (from - 1) x))) from 0

  -- a row of cells, whose first `count` held lengths, once x is placed in it; what it holds then is said of lengths that ascended
  pub record RowPlaced (row : List V) (count : ℕ) (was : Bool) (x : V) (row' : List V) (count' : ℕ) (changed : Bool) (next : ℕ) : Type 0 where
    -- a cell to look for later values from
    pub next_in : next ≤ count'
    pub grows : count ≤ count'
    pub bound : count' ≤ length row
    pub rest : drop count' row' ≡ drop count' row
    pub lengths : Ascending m (take count row) → take count' row' ≡ place m (length row) x (take count row)
    pub flag : Ascending m (take count row) → changed ≡ (was || fresh (nat_lt count (length row)) x (take count row))
