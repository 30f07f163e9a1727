-- Working on a node, in the tables.
use Rattle.std.specs.Prelude.{◌≡◌, ℕ, zero, suc, ◌+◌, ◌-◌, ◌*◌, ◌^◌, ◌<◌, ◌≤◌, Bool, false, cond, ◌||◌, List, length, take, drop, Some, None, fold, nat_lt, slice_index, slice_set}
use Rattle.measure.specs.Algebra.{Algebra, joined}
use Rattle.walks.specs.Networks.{Network}
use Rattle.walks.specs.Rows.{Ascending}
use Rattle.walks.specs.Method.{place, uses}
use Rattle.sweeps.specs.declared.Arc.{Arc}
use Rattle.sweeps.specs.Tables.{network, InOrder, start_of, cells, count_of, row_of}
use Rattle.sweeps.specs.Places.{fresh}

-- j is one of n nodes
pub record IsNode (n j : ℕ) : Type 0 where
  pub low : 1 ≤ j
  pub high : j ≤ n

-- an arc leads from one of n nodes to another, and is not too long
pub record FitsArc {V : Type 0} (m : Algebra V) (n : ℕ) (arc : Arc) (x : V) : Type 0 where
  pub start_low : 1 ≤ arc.start
  pub start_high : arc.start ≤ n
  pub end_low : 1 ≤ arc.end
  pub end_high : arc.end ≤ n
  pub apart : ¬ (arc.start ≡ arc.end)
  pub small : m.magnitude x ≤ 10 ^ 9

-- cell j of `first` says how many arcs end at j or below: they are the first so many, so those into j are numbered on from the last that ends below j
pub record Indexed {V : Type 0} (net : Network V) (first : List ℕ) : Type 0 where
  pub room : suc net.nodes ≤ length first
  pub few : (j : ℕ) → j ≤ net.nodes → slice_index first j ≤ net.arcs
  pub below : (j a : ℕ) → j ≤ net.nodes → 1 ≤ a → a ≤ slice_index first j → net.end a ≤ j
  pub above : (j a : ℕ) → j ≤ net.nodes → slice_index first j < a → a ≤ net.arcs → j < net.end a

-- what is known of the arc tables during a solve
pub record Known {V : Type 0} (m : Algebra V) (n : ℕ) (arcs : List Arc) (lengths : List V) (first : List ℕ) : Type 0 where
  pub ordered : InOrder m (network m n arcs lengths)
  pub indexed : Indexed (network m n arcs lengths) first

-- tables of n rows of k cells, with at most k lengths each
pub record Shape (n k size : ℕ) (counts : List ℕ) : Type 0 where
  pub rows : size ≡ n * k
  pub nodes : length counts ≡ n
  pub full : (i : ℕ) → slice_index counts i ≤ k

-- two nodes of a table of rows of k cells, with at most k lengths each
pub record TwoRows (k i held j count size : ℕ) : Type 0 where
  pub from_one : 1 ≤ i
  pub to_one : 1 ≤ j
  pub apart : ¬ (i ≡ j)
  pub from_in : i * k ≤ size
  pub to_in : j * k ≤ size
  pub from_held : held ≤ k
  pub to_held : count ≤ k

-- a row, and whether it has changed
abbrev pub Marked : Type 0 → Type 0
Marked V = List V × Bool

module _ {V : Type 0} (m : Algebra V) (k : ℕ) (x : V) where
  abbrev pub stepped : V → Marked V → Marked V
  stepped y row = (place m k y row.0, row.1 || fresh m (nat_lt (length row.0) k) y row.0)

  -- a row once a length that reached the arc's start has gone on over the arc
  abbrev pub carried : Marked V → V → Marked V
  carried row a = elim (joined m a x) [ Some y ↦ stepped y row | None ↦ row ]

  -- a row once all the lengths of the row at the arc's start have
  abbrev pub worked : Marked V → List V → Marked V
  worked row from = fold carried row from

-- one row was written, and holds the lengths of `row` if its own ascended
pub record RowIs {V : Type 0} (m : Algebra V) (k j : ℕ) (values : List V) (count : ℕ) (row : Marked V) (values' : List V) (count' : ℕ) (changed : Bool) : Type 0 where
  pub bound : count' ≤ k
  pub grows : count ≤ count'
  pub lengths : Ascending m (take count (cells k j values)) → ◌≡◌ {A = Marked V} (take count' (cells k j values'), changed) row
  pub rest : drop count' (cells k j values') ≡ drop count' (cells k j values)
  pub size : length values' ≡ length values
  pub before : take (start_of k j) values' ≡ take (start_of k j) values
  pub after : drop (start_of k j + k) values' ≡ drop (start_of k j + k) values

module _ {V : Type 0} (m : Algebra V) where
  -- node j was worked on over an arc of length x from node i
  abbrev pub ArcWorked : ℕ → ℕ → ℕ → ℕ → ℕ → Bool → V → List V → List V → ℕ → Bool → Type 0
  ArcWorked k i held j count was x values values' count' changed = RowIs m k j values count (worked m k x (take count (cells k j values), was) (take held (cells k i values))) values' count' changed

  module _ (net : Network V) (k : ℕ) (down : Bool) (j : ℕ) (values : List V) (counts : List ℕ) where
    abbrev pub over : Marked V → ℕ → Marked V
    over row a = cond (uses net down j a) (worked m k (net.arc_length a) row (row_of k (net.start a) values counts)) row

    -- the row of node j once the arcs 1 to a have been worked over
    abbrev pub node_row : ℕ → Marked V
    node_row zero = (row_of k j values counts, false)
    node_row (suc a) = over (node_row a) (suc a)

    -- node j was worked on over all its arcs
    pub record NodeWorked (values' : List V) (counts' : List ℕ) (changed : Bool) : Type 0 where
      pub count : ℕ
      pub is : RowIs m k j values (count_of counts j) (node_row net.arcs) values' count changed
      pub held : counts' ≡ slice_set counts (j - 1) count
