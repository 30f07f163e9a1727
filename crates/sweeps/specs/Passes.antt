-- Passes and solves, in tables of exactly the rows' sizes.
use Rattle.std.specs.Prelude.{◌≡◌, ℕ, ◌+◌, ◌-◌, ◌*◌, ◌^◌, ◌≤◌, Bool, true, false, List, length, drop, replicate, Some, None, Option}
use Rattle.measure.specs.Algebra.{Algebra}
use Rattle.walks.specs.Networks.{Network}
use Rattle.walks.specs.Rows.{Table, In, Ascending}
use Rattle.walks.specs.Method.{pass, rows}
use Rattle.walks.specs.Solves.{settled, refused, outcome}
use Rattle.sweeps.specs.declared.Solved.{Solved}
use Rattle.sweeps.specs.Tables.{InOrder, cells, count_of, row_of, Cleared}
use Rattle.sweeps.specs.Nodes.{Shape}
use Rattle.sweeps.specs.Answers.{SolvedAs, RefusedAs}

-- whether P fails
abbrev pub Tells : Bool → Type 0 → Type 0
Tells true P = ¬ P
Tells false P = P

-- the limits of a solve
pub record Bounds (n k s : ℕ) : Type 0 where
  pub nodes_high : n ≤ 1000
  pub k_low : 1 ≤ k
  pub k_high : k ≤ 20
  pub s_low : 1 ≤ s
  pub s_high : s ≤ n

module _ {V : Type 0} (m : Algebra V) where
  -- the tables hold these rows and nothing else, with null past each
  pub record RowsFill (n k : ℕ) (values : List V) (counts : List ℕ) (t : Table V) : Type 0 where
    pub shape : Shape n k (length values) counts
    pub at : (i : ℕ) → 1 ≤ i → i ≤ n → row_of k i values counts ≡ t i
    pub rest : (i : ℕ) → 1 ≤ i → i ≤ n → drop (count_of counts i) (cells k i values) ≡ replicate (k - count_of counts i) m.null

  -- rows in order, of at most k values, each of a magnitude of at most b arcs
  pub record Ready (k b : ℕ) (t : Table V) : Type 0 where
    pub up : (j : ℕ) → Ascending m (t j)
    pub short : (j : ℕ) → length (t j) ≤ k
    pub light : (j : ℕ) (x : V) → In x (t j) → m.magnitude x ≤ b * 10 ^ 9

  -- where a pass over n nodes leads
  pub record Gone (n k b : ℕ) (t t' : Table V) (values : List V) (counts : List ℕ) (changed : Bool) : Type 0 where
    pub are : RowsFill n k values counts t'
    pub ready : Ready k b t'
    pub tells : Tells changed ((j : ℕ) → 1 ≤ j → j ≤ n → t' j ≡ t j)

  -- what a pass does to the tables, whatever rows they hold
  pub record Passed (net : Network V) (k : ℕ) (down : Bool) (values : List V) (counts : List ℕ) (values' : List V) (counts' : List ℕ) (changed : Bool) : Type 0 where
    pub shape : Shape net.nodes k (length values') counts'
    pub goes : (t : Table V) (b s : ℕ) → b + net.nodes ≤ 10 ^ 9 → Ready k b t → RowsFill net.nodes k values counts t → Gone net.nodes k (b + net.nodes) t (pass m net k s down t) values' counts' changed

  module _ (net : Network V) (k s : ℕ) where
    -- the rows are at rest after p passes
    pub record AtRest (p : ℕ) (values : List V) (counts : List ℕ) : Type 0 where
      pub ended : outcome m net k s ≡ settled p
      pub are : RowsFill net.nodes k values counts (rows m net k s p)

    -- how the passes end
    abbrev pub Settled : Option ℕ → List V → List ℕ → Type 0
    Settled (Some p) values counts = AtRest p values counts
    Settled None values counts = (outcome m net k s ≡ refused) × Cleared m (net.nodes * k) net.nodes values counts

    -- how a solve of tables ends that may be out of order
    abbrev pub Filled : Option Solved → List V → List ℕ → Type 0
    Filled (Some found) values counts = SolvedAs m net k s found values counts
    Filled None values counts = Cleared m (net.nodes * k) net.nodes values counts × (InOrder m net → RefusedAs m net k s)
