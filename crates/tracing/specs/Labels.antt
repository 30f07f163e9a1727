-- The labels of the caller's tables, and the arcs that lead back from one to another.
use Rattle.std.specs.Prelude.{◌≡◌, ℕ, ◌+◌, ◌<◌, ◌≤◌, true, List, length, Some, None, Option, slice_index_or}
use Rattle.measure.specs.Algebra.{Algebra, Joinable}
use Rattle.walks.specs.Ways.{Lowest, NoneAbove}
use Rattle.sweeps.specs.declared.Arc.{Arc}
use Rattle.sweeps.specs.Tables.{arc_at, length_at, start_of, count_of}
use Rattle.tracing.specs.declared.Step.{Step}
use Rattle.tracing.specs.declared.labels.Label.{Label}
use Rattle.tracing.specs.declared.lent.Lent.{Lent}
use Rattle.tracing.specs.Tables.{Tables, tables, Sizes}

abbrev pub read : {V : Type 0} → Lent V → Tables V
read l = tables l.nodes l.order.k l.order.source l.arcs.now l.lengths.now l.values.now l.counts.now

-- the tables are taken if they have these sizes
abbrev pub Taken : {V : Type 0} → Tables V → Option (Lent V) → Type 0
Taken T (Some lent) = read lent ≡ T
Taken T None = ¬ Sizes T

abbrev pub label : ℕ → ℕ → Label
label j p = record { node = j; place = p }

-- the label that a step leads back to
abbrev pub lab : List Arc → Step → Label
lab arcs t = label (arc_at arcs t.arc).start t.place

abbrev pub no_step : Step
no_step = record { arc = 0; place = 0 }

-- the arcs 1 to r end below the node, and those past r do not
pub record Split (arcs : List Arc) (node r : ℕ) : Type 0 where
  pub below : (c : ℕ) → 1 ≤ c → c ≤ r → (arc_at arcs c).end < node
  pub beyond : (c : ℕ) → r < c → c ≤ length arcs → node ≤ (arc_at arcs c).end

-- ends do not descend along the arc table
abbrev pub SortedArcs : List Arc → Type 0
SortedArcs arcs = (a b : ℕ) → 1 ≤ a → a ≤ b → b ≤ length arcs → (arc_at arcs a).end ≤ (arc_at arcs b).end

pub record Splits (arcs : List Arc) (node r : ℕ) : Type 0 where
  pub within : r ≤ length arcs
  pub meant : SortedArcs arcs → Split arcs node r

module _ {V : Type 0} (T : Tables V) where
  abbrev pub Sorted : Type 0
  Sorted = SortedArcs T.arcs

  -- node j has a length at place p
  pub record Held (j p : ℕ) : Type 0 where
    pub low : 0 < j
    pub high : j ≤ T.nodes
    pub in_row : p < T.k
    pub in_count : p < count_of T.counts j

-- y joined with x is z
pub record Comes {V : Type 0} (m : Algebra V) (y x z : V) : Type 0 where
  pub present : Joinable m y x
  pub sum : m.plus y x ≡ z

module _ {V : Type 0} (m : Algebra V) (T : Tables V) where
  abbrev pub val : ℕ → ℕ → V
  val j p = slice_index_or T.values (start_of T.k j + p) m.null

  abbrev pub Valued : Label → Option V → Type 0
  Valued x (Some z) = Held T x.node x.place × (z ≡ val x.node x.place)
  Valued x None = ¬ Held T x.node x.place

  -- these are the lengths in node j's row, at its places
  pub record RowOf (j : ℕ) (row : List V) : Type 0 where
    pub held : (p : ℕ) → p < length row → Held T j p × (slice_index_or row p m.null ≡ val j p)
    pub all : (p : ℕ) → Held T j p → p < length row

  -- the length at place q of the arc's start comes over the arc, of length x, to the length z of node j
  pub record Link (arc : Arc) (x : V) (j : ℕ) (z : V) (q : ℕ) : Type 0 where
    pub marked : arc.«open» ≡ true
    pub into : arc.end ≡ j
    pub start : Held T arc.start q
    pub comes : Comes m (val arc.start q) x z

  abbrev pub Linked : Arc → V → ℕ → V → Option ℕ → Type 0
  Linked arc x j z (Some q) = Link arc x j z q
  Linked arc x j z None = (q : ℕ) → ¬ Link arc x j z q

  -- arc a leads back from label x to label y
  pub record Back (x : Label) (a : ℕ) (y : Label) : Type 0 where
    pub here : Held T x.node x.place
    pub low : 0 < a
    pub high : a ≤ length T.arcs
    pub from : y.node ≡ (arc_at T.arcs a).start
    pub link : Link (arc_at T.arcs a) (length_at m T.lengths a) x.node (val x.node x.place) y.place

  -- null at the source
  abbrev pub Home : Label → Type 0
  Home x = Held T x.node x.place × (x.node ≡ T.source) × (val x.node x.place ≡ m.null)

  -- the lowest arc above a that leads back from x, if there is one
  abbrev pub Further : Label → ℕ → Option Step → Type 0
  Further x a (Some t) = Lowest Back Home x a t.arc (lab T.arcs t)
  Further x a None = NoneAbove Back Home x a
