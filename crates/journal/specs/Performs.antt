-- What it is for a session and its tables to be the outcome of a log, and what one more call does.
use Rattle.std.specs.Prelude.{◌≡◌, ℕ, ◌*◌, ◌≤◌, false, ◌⊎◌, List, ◌∷◌, length, take, Some, None, Option}
use Rattle.measure.specs.Algebra.{Algebra}
use Rattle.walks.specs.Rows.{Table}
use Rattle.sweeps.specs.declared.Arc.{Arc}
use Rattle.sweeps.specs.Tables.{row_of, RowsHeld}
use Rattle.tracing.specs.declared.Step.{Step}
use Rattle.session.specs.declared.stages.Settled.{Settled}
use Rattle.session.specs.declared.stages.Trace.{Trace as Tracer}
use Rattle.session.specs.Nets.{Net}
use Rattle.session.specs.Drafts.{DraftHolds}
use Rattle.session.specs.Settled.{SettledHolds}
use Rattle.session.specs.Traces.{TraceHolds}
use Rattle.journal.specs.declared.calls.Call.{Call}
use Rattle.journal.specs.declared.calls.Call.TheVariants.{Solve}
use Rattle.journal.specs.declared.calls.Answer.{Answer}
use Rattle.journal.specs.declared.stages.Stage.{Stage}
use Rattle.journal.specs.declared.stages.Stage.TheVariants.{Drafting, Resting, Tracing}
use Rattle.journal.specs.Answers.{nodes_said, path_said}
use Rattle.journal.specs.Logs.{Sizes, Logged, Rows, Kind, drafting, resting, tracing, takes, lent_to, stage, network, rows, target, handed}
use Rattle.journal.specs.Promise.{Kept}

-- what the caller's tables hold
pub record Tables (V : Type 0) : Type 0 where
  pub arcs : List Arc
  pub lengths : List V
  pub values : List V
  pub counts : List ℕ
  pub work : List Step
  pub path : List ℕ

abbrev pub kind : Stage → Kind
kind (Drafting d) = drafting
kind (Resting s) = resting
kind (Tracing t) = tracing

module _ {V : Type 0} where
  abbrev pub tables : List Arc → List V → List V → List ℕ → List Step → List ℕ → Tables V
  tables arcs lengths values counts work path = record { arcs = arcs; lengths = lengths; values = values; counts = counts; work = work; path = path }

  abbrev pub sizes_of : Tables V → Sizes
  sizes_of T = record { arcs = length T.arcs; lengths = length T.lengths; values = length T.values; counts = length T.counts; work = length T.work; path = length T.path }

  -- how many lengths each row of a solve keeps at most
  abbrev pub width : Call V → ℕ
  width (Solve order v c) = order.k
  width _ = 0

  -- the rows of n nodes in the first cells of the tables
  abbrev pub rows_read : ℕ → ℕ → List V → List ℕ → Table V
  rows_read n k values counts j = row_of k j (take (n * k) values) (take n counts)

  -- the entry for a call: its answer, what was lent to it of the tables, and the rows and the path that it left in them
  abbrev pub logged : ℕ → Call V → Answer V → Sizes → Tables V → Logged V
  logged n call a z T' = record { call = call; answer = a; lent = lent_to call z; rows = rows_read (nodes_said n a) (width call) T'.values T'.counts; path = take (path_said a) T'.path }

module _ {V : Type 0} (m : Algebra V) where
  -- the tables hold these rows, once there are rows
  abbrev pub HeldRows : ℕ → Rows V → List V → List ℕ → Type 0
  HeldRows n rows values counts = 1 ≤ rows.width → RowsHeld m n rows.width values counts rows.at

  -- the settled session and its tables hold this network and these rows
  pub record Rests (n : ℕ) (net : Net V) (rows : Rows V) (s : Settled) (T : Tables V) : Type 0 where
    pub table : Table V
    pub holds : SettledHolds m net rows.width rows.source table s T.arcs T.lengths T.values T.counts
    pub rows_held : HeldRows n rows T.values T.counts

  -- the open trace and its tables hold them too, and the trace has handed out these paths to its target
  pub record Traces (n : ℕ) (net : Net V) (rows : Rows V) (to : ℕ) (given : List (List ℕ)) (t : Tracer) (T : Tables V) : Type 0 where
    pub table : Table V
    pub holds : TraceHolds m net rows.width rows.source table to given t T.arcs T.lengths T.values T.counts T.work T.path
    pub rows_held : HeldRows n rows T.values T.counts

  -- A draft asks nothing of the value and count tables.
  abbrev pub Holds : ℕ → Net V → Rows V → ℕ → List (List ℕ) → Stage → Tables V → Type 0
  Holds n net rows to given (Drafting d) T = DraftHolds m net d T.arcs T.lengths
  Holds n net rows to given (Resting s) T = Rests n net rows s T
  Holds n net rows to given (Tracing t) T = Traces n net rows to given t T

  -- the session and the tables are what the log leads to
  pub record Outcome (n : ℕ) (log : List (Logged V)) (s : Stage) (T : Tables V) : Type 0 where
    pub at : stage log ≡ kind s
    pub holds : Holds n (network n log) (rows log) (target log) (handed log) s T

  -- the tables hold the rows that the log now has, or neither the log's rows nor the tables changed
  abbrev pub RowsKept : ℕ → Rows V → Tables V → Rows V → Tables V → Type 0
  RowsKept n rows T rows' T' = HeldRows n rows' T'.values T'.counts ⊎ ((rows' ≡ rows) × (T'.values ≡ T.values) × (T'.counts ≡ T.counts))

  -- the stage took the call, and for every log that led here the answer is right, the log with it leads to where the session now is, and
  -- the value and count tables are as it says
  pub record Taken (s : Stage) (T : Tables V) (call : Call V) (a : Answer V) (s' : Stage) (T' : Tables V) : Type 0 where
    pub step : (n : ℕ) (log : List (Logged V)) → Outcome n log s T → Kept m n log
        → Kept m n (logged n call a (sizes_of T) T' ∷ log) × Outcome n (logged n call a (sizes_of T) T' ∷ log) s' T' × RowsKept n (rows log) T (rows (logged n call a (sizes_of T) T' ∷ log)) T'

  -- the stage does not take the call, and nothing changed
  pub record Passed (s : Stage) (T : Tables V) (call : Call V) (s' : Stage) (T' : Tables V) : Type 0 where
    pub untaken : takes (kind s) call ≡ false
    pub stage_as : s' ≡ s
    pub tables_as : T' ≡ T

  abbrev pub Went : Stage → Tables V → Call V → Stage → Option (Answer V) → Tables V → Type 0
  Went s T call s' (Some a) T' = Taken s T call a s' T'
  Went s T call s' None T' = Passed s T call s' T'
