-- The first path to a node, and the next after one: by labels (a node and a length of its row), backward over the arcs.
use Rattle.std.specs.Prelude.{◌≡◌, ℕ, ◌*◌, List, Some, None}
use Rattle.measure.specs.Algebra.{Algebra, Before}
use Rattle.walks.specs.Networks.{Network, Open}
use Rattle.walks.specs.Walks.{walk_length}
use Rattle.walks.specs.Circuits.{NullCircuit}
use Rattle.walks.specs.Rows.{Table, In}
use Rattle.walks.specs.Method.{rows}
use Rattle.walks.specs.Solves.{settled, outcome}
use Rattle.walks.specs.Theorems.{Within}
use Rattle.walks.specs.Paths.{PathTo, Since, Next}
use Rattle.walks.specs.Ways.{Soonest, Way, Later, Last, Steady, Stepwise}

module _ {V : Type 0} (m : Algebra V) (net : Network V) (s : ℕ) (t : Table V) where
  -- x and y are lengths in the rows of their nodes, and y joined with the length of the open arc a is x
  pub record Back (x : ℕ × V) (a : ℕ) (y : ℕ × V) : Type 0 where
    pub is_open : Open net a
    pub into : net.end a ≡ x.0
    pub from : net.start a ≡ y.0
    pub here : In x.1 (t x.0)
    pub there : In y.1 (t y.0)
    pub sum : m.plus y.1 (net.arc_length a) ≡ x.1

  -- null at the source
  abbrev pub Home : ℕ × V → Type 0
  Home x = (x.0 ≡ s) × (x.1 ≡ m.null)

  -- the arcs of w lead back from a label to null at the source
  abbrev pub WayOf : ℕ × V → List ℕ → Type 0
  WayOf = Way Back Home

  -- y is the first length of the row after x
  pub record NextLength (row : List V) (x y : V) : Type 0 where
    pub there : In y row
    pub after : Before m x y
    pub first : (z : V) → In z row → Before m x z → ¬ Before m z y

  -- how the first path and the next one are found
  pub record FoundByLabels (k : ℕ) : Type 0 where
    -- the ways back from a label are the paths of its length
    pub way_path : (j : ℕ) (x : V) (w : List ℕ) → In x (t j) → WayOf (j, x) w → PathTo m net s t j w × (walk_length m net w ≡ x)
    pub path_way : (j : ℕ) (w : List ℕ) → PathTo m net s t j w → WayOf (j, walk_length m net w) w
    pub steady : Steady Back Home (net.nodes * k)
    pub stepwise : Stepwise Back Home
    -- the first path is the first way of the first length
    pub first : (j : ℕ) (x : V) (w : List ℕ) → In x (t j) → ((z : V) → In z (t j) → ¬ Before m z x) → Soonest (WayOf (j, x)) w → Next m net s t j None w
    -- the next path has the same length while there is a later way
    pub next_way : (j : ℕ) (w v : List ℕ) → PathTo m net s t j w → Soonest (Later Back Home (j, walk_length m net w) w) v → Next m net s t j (Some w) v
    -- else it is the first way of the next length
    pub next_length : (j : ℕ) (y : V) (w v : List ℕ) → PathTo m net s t j w → Last Back Home (j, walk_length m net w) w → NextLength (t j) (walk_length m net w) y → Soonest (WayOf (j, y)) v → Next m net s t j (Some w) v
    -- else there is none
    pub none_left : (j : ℕ) (w : List ℕ) → PathTo m net s t j w → Last Back Home (j, walk_length m net w) w → ((z : V) → In z (t j) → ¬ Before m (walk_length m net w) z) → (v : List ℕ) → PathTo m net s t j v → ¬ Since m net s t (Some w) v

-- in every settled solve where no null circuit is reached
abbrev pub NextPaths : {V : Type 0} → Algebra V → Type 0
NextPaths {V} m = (net : Network V) (k s : ℕ) → Within m net k s → (p : ℕ) → outcome m net k s ≡ settled p → ¬ NullCircuit m net s → FoundByLabels m net s (rows m net k s p) k
