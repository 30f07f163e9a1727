-- What an open trace holds, answers and gives back.
use Rattle.std.specs.Prelude.{◌≡◌, ℕ, ◌*◌, ◌≤◌, Bool, cond, ◌||◌, List, [], ◌∷◌, reverse, length, take, drop, Some, None, Ok, Err, Option, Result, nat_lt}
use Rattle.measure.specs.Algebra.{Algebra}
use Rattle.walks.specs.Walks.{walk_length}
use Rattle.walks.specs.Rows.{Table}
use Rattle.walks.specs.Paths.{PathTo, Since, Next}
use Rattle.sweeps.specs.declared.Arc.{Arc}
use Rattle.sweeps.specs.declared.refusal.Refusal.{Refusal}
use Rattle.sweeps.specs.declared.refusal.Refusal.TheVariants.{NoSuchNode, NullCircuit, ShortTraceTables}
use Rattle.tracing.specs.declared.Step.{Step}
use Rattle.tracing.specs.Tables.{tables}
use Rattle.tracing.specs.Standing.{new_cursor, newest, Standing}
use Rattle.session.specs.declared.stages.Settled.{Settled}
use Rattle.session.specs.declared.stages.Trace.{Trace}
use Rattle.session.specs.Nets.{Net, listed}
use Rattle.session.specs.Drafts.{outside}
use Rattle.session.specs.Settled.{SettledHolds}

-- why no trace is opened; null tells whether a null circuit is reached, w and p are the sizes of the work and path tables
abbrev pub trace_verdict : ℕ → ℕ → Bool → ℕ → ℕ → ℕ → Option Refusal
trace_verdict n k null target w p =
    cond (outside n target) (Some NoSuchNode) (cond null (Some NullCircuit) (cond (nat_lt w (n * k) || nat_lt p (n * k)) (Some ShortTraceTables) None))

-- by the verdict: a new trace, or the session back with the reason
abbrev pub TraceDone : Option Refusal → Settled → ℕ → Result Trace (Settled × Refusal) → Type 0
TraceDone (Some why) s target r = r ≡ Err (s, why)
TraceDone None s target (Ok t) = (t.settled ≡ s) × (t.cursor ≡ new_cursor target)
TraceDone None s target (Err p) = ⊥

module _ {V : Type 0} (m : Algebra V) where
  -- The trace and its tables hold this network and these rows; it leads to the target and has handed out these paths, the newest first.
  pub record TraceHolds (net : Net V) (k s : ℕ) (t : Table V) (target : ℕ) (handed : List (List ℕ)) (trace : Trace) (arcs : List Arc) (lengths values : List V) (counts : List ℕ) (work : List Step) (path : List ℕ) : Type 0 where
    pub settled : SettledHolds m net k s t trace.settled arcs lengths values counts
    pub aimed : trace.cursor.target ≡ target
    pub standing : Standing m (tables net.nodes k s net.arcs net.lengths values counts) t handed trace.cursor work
    pub path_room : net.nodes * k ≤ length path

  -- a trace that is opened has handed out no path
  abbrev pub TraceMeant : Net V → ℕ → ℕ → Table V → ℕ → Result Trace (Settled × Refusal) → List Arc → List V → List V → List ℕ → List Step → List ℕ → Type 0
  TraceMeant net k s t target (Ok trace) arcs lengths values counts work path = TraceHolds net k s t target [] trace arcs lengths values counts work path
  TraceMeant net k s t target (Err p) arcs lengths values counts work path = SettledHolds m net k s t p.0 arcs lengths values counts

  -- only the path's cells are written; without a path none is
  abbrev pub PathOnly : List ℕ → List ℕ → Option (ℕ × V) → Type 0
  PathOnly path path' (Some r) = (r.0 ≤ length path) × (drop r.0 path' ≡ drop r.0 path)
  PathOnly path path' None = path' ≡ path

  pub record NextDone (trace : Trace) (work : List Step) (path : List ℕ) (r : Option (ℕ × V)) (trace' : Trace) (work' : List Step) (path' : List ℕ) : Type 0 where
    pub settled : trace'.settled ≡ trace.settled
    pub work_size : length work' ≡ length work
    pub path_size : length path' ≡ length path
    pub frame : PathOnly path path' r

  -- The path that is handed out is the first to the target, in the order of paths, after those handed out before; its arcs
  -- stand in the path table from the source on.
  pub record PathHanded (net : Net V) (k s : ℕ) (t : Table V) (target : ℕ) (handed : List (List ℕ)) (r : ℕ × V) (trace' : Trace) (arcs : List Arc) (lengths values : List V) (counts : List ℕ) (work' : List Step) (path' : List ℕ) : Type 0 where
    pub walk : List ℕ
    pub next : Next m (listed m net) s t target (newest handed) walk
    pub arcs_count : r.0 ≡ length walk
    pub is_length : r.1 ≡ walk_length m (listed m net) walk
    pub written : take r.0 path' ≡ reverse walk
    pub holds : TraceHolds net k s t target (walk ∷ handed) trace' arcs lengths values counts work' path'

  -- no path to the target is left
  pub record PathsOver (net : Net V) (k s : ℕ) (t : Table V) (target : ℕ) (handed : List (List ℕ)) (trace' : Trace) (arcs : List Arc) (lengths values : List V) (counts : List ℕ) (work' : List Step) (path' : List ℕ) : Type 0 where
    pub none : (w : List ℕ) → PathTo m (listed m net) s t target w → ¬ Since m (listed m net) s t (newest handed) w
    pub holds : TraceHolds net k s t target handed trace' arcs lengths values counts work' path'

  abbrev pub NextMeant : Net V → ℕ → ℕ → Table V → ℕ → List (List ℕ) → Option (ℕ × V) → Trace → List Arc → List V → List V → List ℕ → List Step → List ℕ → Type 0
  NextMeant net k s t target handed (Some r) trace' arcs lengths values counts work' path' = PathHanded net k s t target handed r trace' arcs lengths values counts work' path'
  NextMeant net k s t target handed None trace' arcs lengths values counts work' path' = PathsOver net k s t target handed trace' arcs lengths values counts work' path'
