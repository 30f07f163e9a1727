-- Where a cursor stands, and what the call next means.
use Rattle.std.specs.Prelude.{◌≡◌, ℕ, ◌*◌, ◌≤◌, ◌⊎◌, List, [], ◌∷◌, reverse, length, take, drop, Some, None, Option}
use Rattle.measure.specs.Algebra.{Algebra}
use Rattle.walks.specs.Networks.{Network}
use Rattle.walks.specs.Walks.{walk_length}
use Rattle.walks.specs.Circuits.{NullCircuit}
use Rattle.walks.specs.Rows.{Table, In}
use Rattle.walks.specs.Method.{rows}
use Rattle.walks.specs.Solves.{settled, outcome}
use Rattle.walks.specs.Paths.{Ahead, PathTo, Since, Next}
use Rattle.sweeps.specs.Tables.{InOrder, RowsHeld}
use Rattle.tracing.specs.declared.Step.{Step}
use Rattle.tracing.specs.declared.Cursor.{Cursor}
use Rattle.tracing.specs.Tables.{Tables}
use Rattle.tracing.specs.Nexts.{net_of, Tracing, last_of}

abbrev pub new_cursor : ℕ → Cursor
new_cursor j = record { target = j; last = None }

-- the path handed out last, of a list with the newest first
abbrev pub newest : List (List ℕ) → Option (List ℕ)
newest [] = None
newest (w ∷ ws) = Some w

module _ {V : Type 0} (m : Algebra V) (net : Network V) (s : ℕ) (t : Table V) (j : ℕ) where
  -- paths to j, the newest first: each was the first after the one before it
  abbrev pub HandedOut : List (List ℕ) → Type 0
  HandedOut [] = Unit {0}
  HandedOut (w ∷ ws) = Next m net s t j (newest ws) w × HandedOut ws

  -- each is after all that are older
  abbrev pub NewestLast : List (List ℕ) → Type 0
  NewestLast [] = Unit {0}
  NewestLast (w ∷ ws) = ((v : List ℕ) → In v ws → Ahead m net v w) × NewestLast ws

  -- they are paths to j, in order, and every other path to j is after all of them
  pub record Segment (ws : List (List ℕ)) : Type 0 where
    pub paths : (v : List ℕ) → In v ws → PathTo m net s t j v
    pub in_order : NewestLast ws
    pub initial : (v : List ℕ) → PathTo m net s t j v → In v ws ⊎ Since m net s t (newest ws) v
    pub apart : (v : List ℕ) → In v ws → ¬ Since m net s t (newest ws) v

-- whatever is handed out is an initial segment of all paths
abbrev pub Segments : {V : Type 0} → Algebra V → Type 0
Segments {V} m = (net : Network V) (s : ℕ) (t : Table V) (j : ℕ) (ws : List (List ℕ)) → HandedOut m net s t j ws → Segment m net s t j ws

module _ {V : Type 0} (m : Algebra V) (T : Tables V) where
  -- the tables are as the session with the rows t left them, and these paths are handed out, the newest first
  pub record Standing (t : Table V) (handed : List (List ℕ)) (c : Cursor) (work : List Step) : Type 0 where
    pub tracing : Tracing m T t c.target c.last work
    pub handed_out : HandedOut m (net_of m T) T.source t c.target handed
    pub last : newest handed ≡ last_of m T c.last work

  -- a path is handed out: the first after those before
  pub record Hands (t : Table V) (handed : List (List ℕ)) (target : ℕ) (c' : Cursor) (work' : List Step) (path' : List ℕ) (count : ℕ) (x : V) : Type 0 where
    pub walk : List ℕ
    pub next : Next m (net_of m T) T.source t target (newest handed) walk
    pub arcs_count : count ≡ length walk
    pub is_length : x ≡ walk_length m (net_of m T) walk
    pub written : take count path' ≡ reverse walk
    pub stands : Standing t (walk ∷ handed) c' work'

  -- no path is left
  pub record Ends (t : Table V) (handed : List (List ℕ)) (target : ℕ) (c' : Cursor) (work' : List Step) : Type 0 where
    pub none : (u : List ℕ) → PathTo m (net_of m T) T.source t target u → ¬ Since m (net_of m T) T.source t (newest handed) u
    pub stands : Standing t handed c' work'

  -- only the path's cells are written; without a path nothing is, and the cursor stays
  abbrev pub Framed : Cursor → List ℕ → Cursor → List ℕ → Option (ℕ × V) → Type 0
  Framed c path c' path' (Some r) = (r.0 ≤ length path) × (drop r.0 path' ≡ drop r.0 path)
  Framed c path c' path' None = (path' ≡ path) × (c' ≡ c)

  abbrev pub Meant : Table V → List (List ℕ) → ℕ → Cursor → List Step → List ℕ → Option (ℕ × V) → Type 0
  Meant t handed target c' work' path' (Some r) = Hands t handed target c' work' path' r.0 r.1
  Meant t handed target c' work' path' None = Ends t handed target c' work'

  pub record Nexted (c : Cursor) (work : List Step) (path : List ℕ) (c' : Cursor) (work' : List Step) (path' : List ℕ) (r : Option (ℕ × V)) : Type 0 where
    pub target : c'.target ≡ c.target
    pub work_size : length work' ≡ length work
    pub path_size : length path' ≡ length path
    pub frame : Framed c path c' path' r
    pub meant : (t : Table V) (handed : List (List ℕ)) → Standing t handed c work → T.nodes * T.k ≤ length path → Meant t handed c.target c' work' path' r

  -- the tables of a settled solve, where no null circuit is reached
  pub record SettledSolve (p : ℕ) : Type 0 where
    pub nodes_high : T.nodes ≤ 1000
    pub k_low : 1 ≤ T.k
    pub k_high : T.k ≤ 20
    pub source_low : 1 ≤ T.source
    pub source_high : T.source ≤ T.nodes
    pub beside : length T.arcs ≤ length T.lengths
    pub ordered : InOrder m (net_of m T)
    pub ended : outcome m (net_of m T) T.k T.source ≡ settled p
    pub held : RowsHeld m T.nodes T.k T.values T.counts (rows m (net_of m T) T.k T.source p)
    pub no_null : ¬ NullCircuit m (net_of m T) T.source

-- on them a new cursor stands, with no path handed out
abbrev pub SolvesTraced : {V : Type 0} → Algebra V → Type 0
SolvesTraced {V} m = (T : Tables V) (p : ℕ) → SettledSolve m T p → (j : ℕ) (work : List Step) → 1 ≤ j → j ≤ T.nodes → T.nodes * T.k ≤ length work
    → Standing m T (rows m (net_of m T) T.k T.source p) [] (new_cursor j) work
