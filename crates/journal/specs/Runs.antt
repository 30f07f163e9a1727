-- Whole runs: what is promised of the answers to a list of calls.
use Rattle.std.specs.Prelude.{◌≡◌, ℕ, ◌<◌, ◌≤◌, false, List, [], ◌∷◌, reverse, length, take, drop, Some, None, Ok, Err, Option, Result}
use Rattle.measure.specs.Algebra.{Algebra}
use Rattle.session.specs.Drafts.{new_verdict}
use Rattle.journal.specs.declared.calls.Call.{Call}
use Rattle.journal.specs.declared.calls.Answer.{Answer}
use Rattle.journal.specs.declared.faults.Fault.{Fault}
use Rattle.journal.specs.declared.faults.Fault.TheVariants.{Declined, ShortAnswers, Memory}
use Rattle.journal.specs.Logs.{Sizes, Logged, takes, lent_to, stage, network, rows}
use Rattle.journal.specs.Promise.{Kept}
use Rattle.journal.specs.Performs.{Tables, HeldRows}

module _ {V : Type 0} (z : Sizes) where
  -- The calls and their answers, newest first, are those of the log, with tables of these sizes; a call has no answer exactly where the
  -- stage that it met does not take it.
  abbrev pub Tells : List (Call V) → List (Option (Answer V)) → List (Logged V) → Type 0
  Tells [] answers log = log ≡ []
  Tells (call ∷ calls) [] log = ⊥
  Tells (call ∷ calls) (None ∷ answers) log = (takes (stage log) call ≡ false) × Tells calls answers log
  Tells (call ∷ calls) (Some a ∷ answers) log =
      (l : Logged V) × (before : List (Logged V)) × (log ≡ l ∷ before) × (l.call ≡ call) × (l.answer ≡ a) × (l.lent ≡ lent_to call z) × Tells calls answers before

module _ {V : Type 0} (m : Algebra V) (n : ℕ) where
  -- the tables hold the network and the rows that the log leaves
  pub record Left (log : List (Logged V)) (T : Tables V) : Type 0 where
    pub arcs : take (length (network n log).arcs) T.arcs ≡ (network n log).arcs
    pub lengths : take (length (network n log).arcs) T.lengths ≡ (network n log).lengths
    pub rows_held : HeldRows m n (rows log) T.values T.counts

  -- some log tells exactly these calls and these answers, keeps the promise, and leads to what the tables now hold
  pub record Ran (z : Sizes) (calls : List (Call V)) (answers : List (Option (Answer V))) (T' : Tables V) : Type 0 where
    pub log : List (Logged V)
    pub kept : Kept m n log
    pub tells : Tells z (reverse calls) (reverse answers) log
    pub left : Left log T'

-- how a run of so many calls, with so many cells for answers, ends: P where it came to its end
abbrev pub RunEnds : ℕ → ℕ → ℕ → Result (Unit {0}) Fault → Type 0 → Type 0
RunEnds n calls answers (Ok u) P = (new_verdict n ≡ None) × (calls ≤ answers) × P
RunEnds n calls answers (Err (Declined why)) P = new_verdict n ≡ Some why
RunEnds n calls answers (Err ShortAnswers) P = (new_verdict n ≡ None) × (answers < calls)
RunEnds n calls answers (Err Memory) P = ⊥

-- no cell for answers past those of the calls is touched, and where the run does not begin nothing is
abbrev pub RunFrame : {V : Type 0} → ℕ → List (Option (Answer V)) → Tables V → Result (Unit {0}) Fault → List (Option (Answer V)) → Tables V → Type 0
RunFrame calls answers T (Ok u) answers' T' = drop calls answers' ≡ drop calls answers
RunFrame calls answers T (Err why) answers' T' = (answers' ≡ answers) × (T' ≡ T)
