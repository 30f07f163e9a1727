-- Logs: each call beside its answer, newest first, and what has come of them.
use Rattle.std.specs.Prelude.{ℕ, min, Bool, true, false, cond, List, [], ◌∷◌, reverse}
use Rattle.walks.specs.Rows.{Table}
use Rattle.session.specs.Nets.{Net, bare, add_arc, mark_arc, relength_arc}
use Rattle.journal.specs.declared.calls.Call.{Call}
use Rattle.journal.specs.declared.calls.Call.TheVariants.{Put, Relength, Close, Open, Solve, Length, Trace, Next, Finish, Reopen}
use Rattle.journal.specs.declared.calls.Answer.{Answer}
use Rattle.journal.specs.Answers.{accepted, by_circuit, and_path}

-- how many cells of each table
pub record Sizes : Type 0 where
  pub arcs : ℕ
  pub lengths : ℕ
  pub values : ℕ
  pub counts : ℕ
  pub work : ℕ
  pub path : ℕ

-- A call, its answer, how many cells of the tables were lent to it, the rows that an accepted solve left, and the arcs of the path that
-- a next handed out, from the source on.
pub record Logged (V : Type 0) : Type 0 where
  pub call : Call V
  pub answer : Answer V
  pub lent : Sizes
  pub rows : Table V
  pub path : List ℕ

-- how many lengths a row keeps at most, the source, and the row of each node
pub record Rows (V : Type 0) : Type 0 where
  pub width : ℕ
  pub source : ℕ
  pub at : Table V

-- the stages of a session
pub data Kind : Type 0 where
  drafting : Kind
  resting : Kind
  tracing : Kind

abbrev pub same : Kind → Kind → Bool
same drafting drafting = true
same resting resting = true
same tracing tracing = true
same _ _ = false

module _ {V : Type 0} where
  -- the stage that takes a call
  abbrev pub taken_by : Call V → Kind
  taken_by (Length j place) = resting
  taken_by (Trace j w p) = resting
  taken_by Next = tracing
  taken_by Finish = tracing
  taken_by Reopen = resting
  taken_by _ = drafting

  abbrev pub takes : Kind → Call V → Bool
  takes stage call = same stage (taken_by call)

  -- how many cells are lent to a call, of tables of these sizes
  abbrev pub lent_to : Call V → Sizes → Sizes
  lent_to (Solve order v c) z = record z { values = min v z.values; counts = min c z.counts }
  lent_to (Trace j w p) z = record z { work = min w z.work; path = min p z.path }
  lent_to _ z = z

  -- the stage that an accepted call leads to
  abbrev pub leads_to : Call V → Kind
  leads_to (Solve order v c) = resting
  leads_to (Length j place) = resting
  leads_to (Trace j w p) = tracing
  leads_to Next = tracing
  leads_to Finish = resting
  leads_to _ = drafting

  -- an accepted call's change to the network
  abbrev pub changed : Call V → Net V → Net V
  changed (Put start end x) net = add_arc net start end x
  changed (Relength a x) net = relength_arc net a x
  changed (Close a) net = mark_arc net a false
  changed (Open a) net = mark_arc net a true
  changed _ net = net

  -- before the first solve
  abbrev pub no_rows : Rows V
  no_rows = record { width = 0; source = 0; at = λ j. [] }

  -- every row cleared
  abbrev pub emptied : Rows V → Rows V
  emptied rows = record { width = rows.width; source = rows.source; at = λ j. [] }

  -- the rows after an accepted call; `left` are those that the call left, if it is a solve
  abbrev pub rows_after : Call V → Table V → Rows V → Rows V
  rows_after (Solve order v c) left rows = record { width = order.k; source = order.source; at = left }
  rows_after Reopen left rows = emptied rows
  rows_after _ left rows = rows

  -- the rows after a call that was refused by a circuit before null
  abbrev pub rows_cleared : Call V → Rows V → Rows V
  rows_cleared (Solve order v c) rows = record { width = order.k; source = order.source; at = λ j. [] }
  rows_cleared _ rows = rows

  -- the target after an accepted call
  abbrev pub target_after : Call V → ℕ → ℕ
  target_after (Trace j w p) target = j
  target_after _ target = target

  -- the paths handed out after an accepted call; a new trace has handed out none
  abbrev pub handed_after : Call V → Answer V → List ℕ → List (List ℕ) → List (List ℕ)
  handed_after (Trace j w p) a path handed = []
  handed_after Next a path handed = and_path a (reverse path) handed
  handed_after Finish a path handed = []
  handed_after _ a path handed = handed

  -- the stage that the calls have led to
  abbrev pub stage : List (Logged V) → Kind
  stage [] = drafting
  stage (l ∷ log) = cond (accepted l.answer) (leads_to l.call) (stage log)

  -- the arcs of the accepted puts, as the accepted calls after left them
  abbrev pub network : ℕ → List (Logged V) → Net V
  network n [] = bare n
  network n (l ∷ log) = cond (accepted l.answer) (changed l.call (network n log)) (network n log)

  -- the rows of the last accepted solve; cleared by a reopen, and by a circuit before null
  abbrev pub rows : List (Logged V) → Rows V
  rows [] = no_rows
  rows (l ∷ log) = cond (accepted l.answer) (rows_after l.call l.rows (rows log)) (cond (by_circuit l.answer) (rows_cleared l.call (rows log)) (rows log))

  -- the target of the last accepted trace
  abbrev pub target : List (Logged V) → ℕ
  target [] = 0
  target (l ∷ log) = cond (accepted l.answer) (target_after l.call (target log)) (target log)

  -- the paths that the open trace has handed out, the newest first, each as a walk: its last arc first
  abbrev pub handed : List (Logged V) → List (List ℕ)
  handed [] = []
  handed (l ∷ log) = cond (accepted l.answer) (handed_after l.call l.answer l.path (handed log)) (handed log)
