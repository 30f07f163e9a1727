-- How a solve ends.
use Rattle.std.specs.Prelude.{ℕ, zero, suc, ◌+◌, ◌-◌, ◌*◌, Bool, true, false, ◌&&◌, List, [], ◌∷◌}
use Rattle.measure.specs.Algebra.{Algebra}
use Rattle.walks.specs.Networks.{Network}
use Rattle.walks.specs.Rows.{Table}
use Rattle.walks.specs.Method.{choose, rows}

-- settled after so many passes, or refused
pub data Outcome : Type 0 where
  settled : ℕ → Outcome
  refused : Outcome

-- ends here, or as later passes do
abbrev pub ends : Bool → Outcome → Outcome → Outcome
ends true now later = now
ends false now later = later

-- the two rows are the same
abbrev pub same_row : {V : Type 0} → Algebra V → List V → List V → Bool
same_row m [] [] = true
same_row m [] (y ∷ ys) = false
same_row m (x ∷ xs) [] = false
same_row m (x ∷ xs) (y ∷ ys) = choose (m.compare x y) false (same_row m xs ys) false

-- the two tables agree on the nodes 1 to n
abbrev pub same_rows : {V : Type 0} → Algebra V → ℕ → Table V → Table V → Bool
same_rows m zero t u = true
same_rows m (suc n) t u = same_row m (t (suc n)) (u (suc n)) && same_rows m n t u

module _ {V : Type 0} (m : Algebra V) (net : Network V) (k s : ℕ) where
  -- the pass after the first p passes changes no row
  abbrev pub quiet : ℕ → Bool
  quiet p = same_rows m net.nodes (rows m net k s (suc p)) (rows m net k s p)

  -- the first p passes are made, and at most `left` more may be
  abbrev pub solve_from : ℕ → ℕ → Outcome
  solve_from p zero = refused
  solve_from p (suc left) = ends (quiet p) (settled (suc p)) (solve_from (suc p) left)

  -- a change in this pass refuses
  abbrev pub last_pass : ℕ
  last_pass = 2 * (net.nodes * k + 1)

  -- pass 1 is made in any case; from pass 2 on the first that changes no row ends the solve
  abbrev pub outcome : Outcome
  outcome = solve_from 1 (last_pass - 1)
