-- The premise of a trace, and what the parts of a next find and write.
use Rattle.std.specs.Prelude.{◌≡◌, ℕ, ◌*◌, ◌≤◌, List, reverse, length, take, drop, Some, None, Option}
use Rattle.measure.specs.Algebra.{Algebra}
use Rattle.walks.specs.Networks.{Network}
use Rattle.walks.specs.Circuits.{NegativeCircuit, NullCircuit}
use Rattle.walks.specs.Rows.{Table}
use Rattle.walks.specs.Paths.{PathTo, Since, Next}
use Rattle.walks.specs.Theorems.{ExactRow}
use Rattle.sweeps.specs.Tables.{network, InOrder, RowsHeld}
use Rattle.tracing.specs.declared.Step.{Step}
use Rattle.tracing.specs.declared.Handed.{Handed}
use Rattle.tracing.specs.declared.labels.Label.{Label}
use Rattle.tracing.specs.Tables.{Tables}
use Rattle.tracing.specs.Labels.{label, Held}
use Rattle.tracing.specs.Steps.{arcs_of, Stands, Down}

-- the arcs of the steps are in the first cells of the path table, from the source on, and the other cells are as they were
pub record Written (steps : List Step) (path path' : List ℕ) : Type 0 where
  pub cells : take (length steps) path' ≡ reverse (arcs_of steps)
  pub past : drop (length steps) path' ≡ drop (length steps) path

module _ {V : Type 0} (m : Algebra V) (T : Tables V) where
  -- the network that the tables hold
  abbrev pub net_of : Network V
  net_of = network m T.nodes T.arcs T.lengths

  -- The tables are as a settled session leaves them: they hold a network in order and exact rows, and no circuit before null or of
  -- length null is reached. (Exact rows alone do not tell that: only walks up to a weight are counted.)
  pub record Settled (t : Table V) : Type 0 where
    pub nodes_high : T.nodes ≤ 1000
    pub k_low : 1 ≤ T.k
    pub k_high : T.k ≤ 20
    pub source_low : 1 ≤ T.source
    pub source_high : T.source ≤ T.nodes
    pub beside : length T.arcs ≤ length T.lengths
    pub ordered : InOrder m net_of
    pub held : RowsHeld m T.nodes T.k T.values T.counts t
    pub exact : (j : ℕ) → 1 ≤ j → j ≤ T.nodes → ExactRow m net_of T.k T.source j (t j)
    pub no_negative : ¬ NegativeCircuit m net_of T.source
    pub no_null : ¬ NullCircuit m net_of T.source

  -- the first steps of the work table are this path to node j
  abbrev pub InWork : ℕ → Handed → List Step → Type 0
  InWork j h work = (h.depth ≤ length work) × Held T j h.place × Stands m T (label j h.place) (take h.depth work)

  -- the path last handed out, if there is one, is in the work table
  abbrev pub Begun : ℕ → Option Handed → List Step → Type 0
  Begun j (Some h) work = InWork j h work
  Begun j None work = Unit {0}

  -- the path last handed out, if there is one
  abbrev pub last_of : Option Handed → List Step → Option (List ℕ)
  last_of (Some h) work = Some (arcs_of (take h.depth work))
  last_of None work = None

  -- a trace to node j stands in the work table
  pub record Tracing (t : Table V) (j : ℕ) (last : Option Handed) (work : List Step) : Type 0 where
    pub settled : Settled t
    pub low : 1 ≤ j
    pub high : j ≤ T.nodes
    pub room : T.nodes * T.k ≤ length work
    pub at : Begun j last work

  abbrev pub Opened : Label → List Step → List Step → Option Handed → Type 0
  Opened x work work' (Some h) = (h.place ≡ x.place) × (h.depth ≤ length work') × Held T x.node x.place × ((t : Table V) → Settled t → Down m T x (take h.depth work'))
  Opened x work work' None = (t : Table V) → Settled t → T.nodes * T.k ≤ length work → (¬ Held T x.node x.place) × (work' ≡ work)

  -- the next path is in the work table
  pub record Found (t : Table V) (j : ℕ) (last : Option (List ℕ)) (h : Handed) (work : List Step) : Type 0 where
    pub next : Next m net_of T.source t j last (arcs_of (take h.depth work))
    pub begun : InWork j h work

  -- there is none, and the work table is as it was
  pub record Over (t : Table V) (j : ℕ) (last : Option (List ℕ)) (work work' : List Step) : Type 0 where
    pub none : (u : List ℕ) → PathTo m net_of T.source t j u → ¬ Since m net_of T.source t last u
    pub same : work' ≡ work

  abbrev pub Advanced : ℕ → Option Handed → List Step → List Step → Option Handed → Type 0
  Advanced j last work work' (Some h) = (h.depth ≤ length work') × ((t : Table V) → Tracing t j last work → Found t j (last_of last work) h work')
  Advanced j last work work' None = (t : Table V) → Tracing t j last work → Over t j (last_of last work) work work'
