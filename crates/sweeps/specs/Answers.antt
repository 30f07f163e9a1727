-- What a solve answers, and what it leaves in the caller's tables.
use Rattle.std.specs.Prelude.{◌≡◌, ℕ, ◌*◌, ◌≤◌, cond, ◌||◌, List, length, take, drop, Some, None, Ok, Err, Option, Result, ◌==◌, nat_lt}
use Rattle.measure.specs.Algebra.{Algebra}
use Rattle.walks.specs.Networks.{Network}
use Rattle.walks.specs.Circuits.{NegativeCircuit as NegativeReached, NullCircuit as NullReached}
use Rattle.walks.specs.Method.{rows}
use Rattle.walks.specs.Solves.{settled, refused, outcome}
use Rattle.walks.specs.Theorems.{ExactRow}
use Rattle.sweeps.specs.declared.Arc.{Arc}
use Rattle.sweeps.specs.declared.Solved.{Solved}
use Rattle.sweeps.specs.declared.refusal.Refusal.{Refusal}
use Rattle.sweeps.specs.declared.refusal.Refusal.TheVariants.{NodeCount, NoSuchNode, ShortTables, NegativeCircuit}
use Rattle.sweeps.specs.Tables.{network, InOrder, RowsHeld, Whether, Cleared}

-- why a solve of n nodes by an order of k and s is refused before it looks at an arc, if it is; the tables have so many value and count cells
abbrev pub solve_verdict : ℕ → ℕ → ℕ → ℕ → ℕ → Option Refusal
solve_verdict n k s values counts =
    cond (n == 0 || nat_lt 1000 n) (Some NodeCount) (cond (nat_lt n s) (Some NoSuchNode) (cond (nat_lt values (n * k) || nat_lt counts n) (Some ShortTables) None))

module _ {V : Type 0} (m : Algebra V) (net : Network V) (k s : ℕ) where
  -- settled as the method says, with its rows in the tables, and these are the first k distinct lengths of walks to each node
  pub record SolvedAs (found : Solved) (values : List V) (counts : List ℕ) : Type 0 where
    pub ended : outcome m net k s ≡ settled found.passes
    pub few : found.passes ≤ 2 * (net.nodes * k)
    pub held : RowsHeld m net.nodes k values counts (rows m net k s found.passes)
    pub exact : (j : ℕ) → ExactRow m net k s j (rows m net k s found.passes j)
    pub null_told : Whether found.null (NullReached m net s)

  -- refused as the method says, since a circuit before null is reached
  pub record RefusedAs : Type 0 where
    pub ended : outcome m net k s ≡ refused
    pub circuit : NegativeReached m net s

module _ {V : Type 0} (m : Algebra V) (n k s : ℕ) (arcs : List Arc) (lengths : List V) (values : List V) (counts : List ℕ) where
  -- the answer by the verdict: a refusal leaves all as it was, but one of a circuit before null clears the rows
  abbrev pub Answered : Option Refusal → Result Solved Refusal → List V → List ℕ → Type 0
  Answered (Some why) r values' counts' = (r ≡ Err why) × (values' ≡ values) × (counts' ≡ counts)
  Answered None (Ok found) values' counts' = Unit {0}
  Answered None (Err why) values' counts' = (why ≡ NegativeCircuit) × Cleared m (n * k) n (take (n * k) values') (take n counts')

  abbrev pub Meant : Option Refusal → Result Solved Refusal → List V → List ℕ → Type 0
  Meant (Some why) r values' counts' = Unit {0}
  Meant None (Ok found) values' counts' = SolvedAs m (network m n arcs lengths) k s found values' counts'
  Meant None (Err why) values' counts' = RefusedAs m (network m n arcs lengths) k s

  pub record Solves (r : Result Solved Refusal) (values' : List V) (counts' : List ℕ) : Type 0 where
    -- when it is refused, and what a refusal leaves
    pub answered : Answered (solve_verdict n k s (length values) (length counts)) r values' counts'
    -- what it never touches
    pub value_size : length values' ≡ length values
    pub count_size : length counts' ≡ length counts
    pub past_values : drop (n * k) values' ≡ drop (n * k) values
    pub past_counts : drop n counts' ≡ drop n counts
    -- what the answer means, for tables whose arcs are in order
    pub meant : InOrder m (network m n arcs lengths) → Meant (solve_verdict n k s (length values) (length counts)) r values' counts'
