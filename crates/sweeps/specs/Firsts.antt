-- How first lengths compare over an arc.
use Rattle.std.specs.Prelude.{◌≡◌, ℕ, ◌≤◌, Bool, true, false, cond, List, Some, None, Option, nat_lt, slice_index_or}
use Rattle.std.specs.declared.cmp.Ordering.{Ordering}
use Rattle.std.specs.Ordering.{is_lt}
use Rattle.measure.specs.Algebra.{Algebra, joined}
use Rattle.walks.specs.Networks.{Network}
use Rattle.sweeps.specs.declared.Arc.{Arc}
use Rattle.sweeps.specs.Tables.{start_of, count_of}

-- there is an order, and it is one that the test takes
abbrev pub told : (Ordering → Bool) → Option Ordering → Bool
told test (Some o) = test o
told test None = false

module _ {V : Type 0} (m : Algebra V) where
  abbrev pub set_against : Option V → V → Option Ordering
  set_against (Some y) z = Some (m.compare y z)
  set_against None z = None

  -- how a start's first length joined with x compares with an end's first length, if all three are there
  abbrev pub compared_over : V → Option V → Option V → Option Ordering
  compared_over x None o = None
  compared_over x (Some y) None = None
  compared_over x (Some y) (Some z) = set_against (joined m y x) z

  module _ (k : ℕ) (values : List V) (counts : List ℕ) where
    -- the first length of node j, as the tables hold it
    abbrev pub first_length_of : ℕ → Option V
    first_length_of j = cond (nat_lt 0 (count_of counts j)) (Some (slice_index_or values (start_of k j) m.null)) None

    -- how what comes over an open arc compares with the first length of its end
    abbrev pub over_arc : Arc → V → Option Ordering
    over_arc arc x = cond arc.«open» (compared_over x (first_length_of arc.start) (first_length_of arc.end)) None

module _ {V : Type 0} (m : Algebra V) (net : Network V) (k : ℕ) (values : List V) (counts : List ℕ) where
  abbrev pub over_at : ℕ → Option Ordering
  over_at a = cond (net.is_open a) (compared_over m (net.arc_length a) (first_length_of m k values counts (net.start a)) (first_length_of m k values counts (net.end a))) None

  -- an open arc brings its end a length before the first one there
  pub record Lagging : Type 0 where
    pub arc : ℕ
    pub low : 1 ≤ arc
    pub high : arc ≤ net.arcs
    pub lags : told is_lt (over_at arc) ≡ true

  abbrev pub LaggingOr : Bool → Type 0
  LaggingOr true = Lagging
  LaggingOr false = (a : ℕ) → 1 ≤ a → a ≤ net.arcs → told is_lt (over_at a) ≡ false
