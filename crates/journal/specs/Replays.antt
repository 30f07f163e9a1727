-- Replays: what is promised of the entries.
use Rattle.std.specs.Prelude.{◌≡◌, ℕ, true, false, ◌⊎◌, List, [], ◌∷◌, map, reverse, Some, None, Ok, Err, vec_items, Result}
use Rattle.measure.specs.Algebra.{Algebra}
use Rattle.sweeps.specs.Tables.{row_of}
use Rattle.session.specs.Drafts.{new_verdict}
use Rattle.journal.specs.declared.calls.Call.{Call}
use Rattle.journal.specs.declared.replaying.Entry.{Entry}
use Rattle.journal.specs.declared.faults.Fault.{Fault}
use Rattle.journal.specs.declared.faults.Fault.TheVariants.{Declined, ShortAnswers, Memory}
use Rattle.journal.specs.Logs.{Sizes, Logged, takes, lent_to, stage}
use Rattle.journal.specs.Promise.{Kept}
use Rattle.journal.specs.Performs.{Tables, width}
use Rattle.journal.specs.Runs.{Left}

module _ {V : Type 0} where
  -- an entry, for tables of these sizes
  abbrev pub shown : Sizes → Entry V → Logged V
  shown z e = record { call = e.call; answer = e.answer; lent = lent_to e.call z; rows = λ j. row_of (width e.call) j (vec_items e.values) (vec_items e.counts); path = vec_items e.path }

  -- the log of the entries, newest first
  abbrev pub log_of : Sizes → List (Entry V) → List (Logged V)
  log_of z entries = reverse (map (shown z) entries)

  -- the log has exactly those of the calls, newest first in both, that the stage they met takes
  abbrev pub Follows : List (Call V) → List (Logged V) → Type 0
  Follows [] log = log ≡ []
  Follows (call ∷ calls) log =
      ((takes (stage log) call ≡ false) × Follows calls log)
      ⊎ ((l : Logged V) × (before : List (Logged V)) × (log ≡ l ∷ before) × (l.call ≡ call) × (takes (stage before) call ≡ true) × Follows calls before)

  -- the entries are those of the calls, keep the promise, and lead to what the tables now hold
  pub record Replayed (m : Algebra V) (n : ℕ) (z : Sizes) (calls : List (Call V)) (entries : List (Entry V)) (T' : Tables V) : Type 0 where
    pub kept : Kept m n (log_of z entries)
    pub follows : Follows (reverse calls) (log_of z entries)
    pub left : Left m n (log_of z entries) T'

-- how a replay ends: P of what it gives, no session of so many nodes, or want of memory
abbrev pub ReplayEnds : {R : Type 0} → ℕ → Result R Fault → (R → Type 0) → Type 0
ReplayEnds n (Ok v) P = (new_verdict n ≡ None) × P v
ReplayEnds n (Err (Declined why)) P = new_verdict n ≡ Some why
ReplayEnds n (Err ShortAnswers) P = ⊥
ReplayEnds n (Err Memory) P = new_verdict n ≡ None
