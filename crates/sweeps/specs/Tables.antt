-- Networks and rows, as the caller's tables hold them.
use Rattle.std.specs.Prelude.{◌≡◌, ℕ, zero, suc, ◌-◌, ◌*◌, ◌≤◌, min, Bool, true, false, List, length, take, drop, replicate, slice_index, slice_index_or}
use Rattle.measure.specs.Algebra.{Algebra}
use Rattle.walks.specs.Networks.{Network, ProperArc}
use Rattle.walks.specs.Rows.{Table}
use Rattle.sweeps.specs.declared.Arc.{Arc}

-- what a read past the arc table stands for
abbrev pub no_arc : Arc
no_arc = record { start = 0; end = 0; «open» = false }

abbrev pub arc_at : List Arc → ℕ → Arc
arc_at arcs zero = no_arc
arc_at arcs (suc a) = slice_index_or arcs a no_arc

-- the part of the value table that holds the row of node j: k cells from (j - 1) × k on
abbrev pub start_of : ℕ → ℕ → ℕ
start_of k j = (j - 1) * k

abbrev pub cells : {V : Type 0} → ℕ → ℕ → List V → List V
cells k j values = take k (drop (start_of k j) values)

abbrev pub count_of : List ℕ → ℕ → ℕ
count_of counts j = slice_index counts (j - 1)

-- the lengths of node j: as many of its first cells as its count says
abbrev pub row_of : {V : Type 0} → ℕ → ℕ → List V → List ℕ → List V
row_of k j values counts = take (count_of counts j) (cells k j values)

-- the answer b is whether P holds
abbrev pub Whether : Bool → Type 0 → Type 0
Whether true P = P
Whether false P = ¬ P

module _ {V : Type 0} (m : Algebra V) where
  abbrev pub length_at : List V → ℕ → V
  length_at lengths zero = m.null
  length_at lengths (suc a) = slice_index_or lengths a m.null

  -- the network of n nodes whose arcs stand in an arc table and a length table, as many as the shorter holds
  abbrev pub network : ℕ → List Arc → List V → Network V
  network n arcs lengths = record {
    nodes = n;
    arcs = min (length arcs) (length lengths);
    start = λ a. (arc_at arcs a).start;
    end = λ a. (arc_at arcs a).end;
    arc_length = λ a. length_at lengths a;
    is_open = λ a. (arc_at arcs a).«open»;
  }

  -- every arc, open or closed, leads from a node to another and is not too long, and ends do not descend along the table
  pub record InOrder (net : Network V) : Type 0 where
    pub proper : (a : ℕ) → 1 ≤ a → a ≤ net.arcs → ProperArc m net a
    pub sorted : (a b : ℕ) → 1 ≤ a → a ≤ b → b ≤ net.arcs → net.end a ≤ net.end b

  -- the tables hold the rows t of n nodes, of at most k lengths each, with null past each row
  pub record RowsHeld (n k : ℕ) (values : List V) (counts : List ℕ) (t : Table V) : Type 0 where
    pub value_cells : n * k ≤ length values
    pub count_cells : n ≤ length counts
    pub short : (j : ℕ) → 1 ≤ j → j ≤ n → count_of counts j ≤ k
    pub at : (j : ℕ) → 1 ≤ j → j ≤ n → row_of k j values counts ≡ t j
    pub past : (j : ℕ) → 1 ≤ j → j ≤ n → drop (count_of counts j) (cells k j values) ≡ replicate (k - count_of counts j) m.null

  -- tables of so many cells hold only null and 0
  pub record Cleared (size nodes : ℕ) (values : List V) (counts : List ℕ) : Type 0 where
    pub null_values : values ≡ replicate size m.null
    pub no_counts : counts ≡ replicate nodes 0
