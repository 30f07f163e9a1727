-- The promise: what is asked of the answer to a call, after any log.
use Rattle.std.specs.Prelude.{◌≡◌, ℕ, ◌+◌, ◌≤◌, Bool, true, ◌⊎◌, List, [], ◌∷◌, reverse, length, Some, None, Option}
use Rattle.measure.specs.Algebra.{Algebra}
use Rattle.walks.specs.Walks.{walk_length}
use Rattle.walks.specs.Circuits.{NegativeCircuit as NegativeReached, NullCircuit as NullReached}
use Rattle.walks.specs.Solves.{settled, outcome}
use Rattle.walks.specs.Theorems.{ExactRow}
use Rattle.sweeps.specs.declared.order.Order.{Order}
use Rattle.sweeps.specs.declared.refusal.Refusal.{Refusal}
use Rattle.sweeps.specs.declared.refusal.Refusal.TheVariants.{NegativeCircuit}
use Rattle.sweeps.specs.Tables.{Whether}
use Rattle.session.specs.Nets.{Net, last_end, listed}
use Rattle.session.specs.Drafts.{judged, put_verdict, relength_verdict, mark_verdict}
use Rattle.session.specs.Settled.{length_answer}
use Rattle.session.specs.Solving.{begin_verdict}
use Rattle.session.specs.Traces.{trace_verdict}
use Rattle.journal.specs.declared.calls.Call.{Call}
use Rattle.journal.specs.declared.calls.Call.TheVariants.{Put, Relength, Close, Open, Solve, Length, Trace, Next, Finish, Reopen}
use Rattle.journal.specs.declared.calls.Answer.{Answer}
use Rattle.journal.specs.declared.calls.Answer.TheVariants.{Refused, Done, Numbered, Solved, Value, Path, NoPath}
use Rattle.journal.specs.Answers.{told, as_done}
use Rattle.journal.specs.Logs.{Logged, Rows, takes, stage, network, rows, target, handed}
use Rattle.journal.specs.Handing.{FirstLeft, NoneLeft}

module _ {V : Type 0} (m : Algebra V) where
  -- An accepted solve: no circuit before null is reached, the pass count is the method's, a null circuit is told truly, and each row
  -- has the first K distinct lengths of walks from the source to its node.
  pub record SolvedRight (net : Net V) (order : Order) (l : Logged V) : Type 0 where
    pub passes : ℕ
    pub null : Bool
    pub answer : l.answer ≡ Solved passes null
    pub sound : ¬ NegativeReached m (listed m net) order.source
    pub counted : outcome m (listed m net) order.k order.source ≡ settled passes
    pub null_told : Whether null (NullReached m (listed m net) order.source)
    pub exact : (j : ℕ) → 1 ≤ j → j ≤ net.nodes → ExactRow m (listed m net) order.k order.source j (l.rows j)

  -- one that is refused, since a circuit before null is reached
  pub record CircuitRight (net : Net V) (order : Order) (l : Logged V) : Type 0 where
    pub answer : l.answer ≡ Refused NegativeCircuit
    pub reached : NegativeReached m (listed m net) order.source

  -- by the reason why the solve does not begin, if there is one
  abbrev pub SolveRight : Option Refusal → Net V → Order → Logged V → Type 0
  SolveRight (Some why) net order l = l.answer ≡ Refused why
  SolveRight None net order l = SolvedRight net order l ⊎ CircuitRight net order l

  -- a trace is refused as the verdict says, which is told truly whether a null circuit is reached
  pub record TraceRight (net : Net V) (rows : Rows V) (to : ℕ) (l : Logged V) : Type 0 where
    pub null : Bool
    pub null_told : Whether null (NullReached m (listed m net) rows.source)
    pub answer : l.answer ≡ as_done (judged (trace_verdict net.nodes rows.width null to l.lent.work l.lent.path) tt)

  -- The path that a next hands out: how many arcs it has, its length, and that it is the first that is left. The entry has its arcs from
  -- the source on, so its walk is their reverse.
  pub record PathRight (net : Net V) (rows : Rows V) (to : ℕ) (given : List (List ℕ)) (count : ℕ) (x : V) (path : List ℕ) : Type 0 where
    pub many : count ≡ length path
    pub long : x ≡ walk_length m (listed m net) (reverse path)
    pub first : FirstLeft m (listed m net) rows.source rows.at to given (reverse path)

  abbrev pub NextRight : Net V → Rows V → ℕ → List (List ℕ) → Answer V → List ℕ → Type 0
  NextRight net rows to given (Path count x) path = PathRight net rows to given count x path
  NextRight net rows to given NoPath path = NoneLeft m (listed m net) rows.source rows.at to given
  NextRight net rows to given _ path = ⊥

  -- what is asked of the answer to a call, for the network, the rows, the target and the paths handed out that the calls before it have left
  abbrev pub Answered : Net V → Rows V → ℕ → List (List ℕ) → Call V → Logged V → Type 0
  Answered net rows to given (Put start end x) l = l.answer ≡ told Numbered (judged (put_verdict m net.nodes (length net.arcs) (last_end net.arcs) l.lent.arcs l.lent.lengths start end x) (length net.arcs + 1))
  Answered net rows to given (Relength a x) l = l.answer ≡ as_done (judged (relength_verdict m (length net.arcs) a x) tt)
  Answered net rows to given (Close a) l = l.answer ≡ as_done (judged (mark_verdict (length net.arcs) a) tt)
  Answered net rows to given (Open a) l = l.answer ≡ as_done (judged (mark_verdict (length net.arcs) a) tt)
  Answered net rows to given (Solve order v c) l = SolveRight (begin_verdict net.nodes order.k order.source l.lent.values l.lent.counts) net order l
  Answered net rows to given (Length j place) l = l.answer ≡ told Value (length_answer m net.nodes rows.width rows.at j place)
  Answered net rows to given (Trace j w p) l = TraceRight net rows j l
  Answered net rows to given Next l = NextRight net rows to given l.answer l.path
  Answered net rows to given Finish l = l.answer ≡ Done
  Answered net rows to given Reopen l = l.answer ≡ Done

  pub record Right (n : ℕ) (log : List (Logged V)) (l : Logged V) : Type 0 where
    pub taken : takes (stage log) l.call ≡ true
    pub answered : Answered (network n log) (rows log) (target log) (handed log) l.call l

  -- every answer is right for the calls before it
  abbrev pub Kept : ℕ → List (Logged V) → Type 0
  Kept n [] = Unit {0}
  Kept n (l ∷ log) = Right n log l × Kept n log
