-- Networks and rows by what was done last: the theorems above the reading of them off a log.
use Rattle.std.specs.Prelude.{◌≡◌, ℕ, ◌≤◌, true, false, ◌⊎◌, List, ◌∷◌, ◌++◌}
use Rattle.measure.specs.Algebra.{Algebra}
use Rattle.walks.specs.Networks.{Network}
use Rattle.walks.specs.Circuits.{NegativeCircuit as NegativeReached}
use Rattle.walks.specs.Theorems.{ExactRow}
use Rattle.walks.specs.Rows.{In}
use Rattle.session.specs.Nets.{Net, listed}
use Rattle.journal.specs.declared.calls.Call.{Call}
use Rattle.journal.specs.declared.calls.Call.TheVariants.{Put, Relength, Close, Open}
use Rattle.journal.specs.declared.calls.Answer.TheVariants.{Numbered}
use Rattle.journal.specs.Answers.{accepted}
use Rattle.journal.specs.Logs.{Logged, Rows, drafting, stage, network, rows}
use Rattle.journal.specs.Promise.{Kept}

-- of a list with the newest first: something that P holds of, with nothing that Q holds of after it
pub record NoneAfter {X : Type 0} (P Q : X → Type 0) (xs : List X) : Type 0 where
  pub newer : List X
  pub it : X
  pub older : List X
  pub split : xs ≡ newer ++ (it ∷ older)
  pub is : P it
  pub none : (x : X) → In x newer → ¬ Q x

module _ {V : Type 0} where
  -- this call was made and accepted
  pub record Made (call : Call V) (l : Logged V) : Type 0 where
    pub is : l.call ≡ call
    pub taken : accepted l.answer ≡ true

  -- this put was accepted and gave the arc its number a
  pub record PutAs (a start end : ℕ) (x : V) (l : Logged V) : Type 0 where
    pub is : l.call ≡ Put start end x
    pub number : l.answer ≡ Numbered a

  -- the accepted put of arc a, or an accepted relength of it, with the length x
  abbrev pub Gives : ℕ → V → Logged V → Type 0
  Gives a x l = ((start : ℕ) × (end : ℕ) × PutAs a start end x l) ⊎ Made (Relength a x) l

  abbrev pub GivesLength : ℕ → Logged V → Type 0
  GivesLength a l = (x : V) × Gives a x l

module _ {V : Type 0} (m : Algebra V) where
  -- the network as the log leaves it
  abbrev pub left_by : ℕ → List (Logged V) → Network V
  left_by n log = listed m (network n log)

  -- an arc has the last length that an accepted call gave it
  abbrev pub LastLengths : Type 0
  LastLengths = (n : ℕ) (log : List (Logged V)) → Kept m n log → (a : ℕ) → 1 ≤ a → a ≤ (left_by n log).arcs → NoneAfter (Gives a ((left_by n log).arc_length a)) (GivesLength a) log

  -- an arc is closed exactly if an accepted close of it has no accepted open of it after
  abbrev pub ClosedExactly : Type 0
  ClosedExactly = (n : ℕ) (log : List (Logged V)) → Kept m n log → (a : ℕ) → 1 ≤ a → a ≤ (left_by n log).arcs
      → ((left_by n log).is_open a ≡ false → NoneAfter (Made (Close a)) (Made (Open a)) log) × (NoneAfter (Made (Close a)) (Made (Open a)) log → (left_by n log).is_open a ≡ false)

  -- an arc leads from the start to the end of the accepted put that gave it its number
  abbrev pub EndsAsPut : Type 0
  EndsAsPut = (n : ℕ) (log : List (Logged V)) → Kept m n log → (a : ℕ) → 1 ≤ a → a ≤ (left_by n log).arcs
      → (l : Logged V) × (x : V) × In l log × PutAs a ((left_by n log).start a) ((left_by n log).end a) x l

  -- From the source no circuit before null is reached, and each row has the first K distinct lengths of walks to its node: every walk's
  -- length is in its last node's row or K different lengths there come before it, and each length in a row is that of a walk.
  pub record ExactRows (net : Net V) (rows : Rows V) : Type 0 where
    pub sound : ¬ NegativeReached m (listed m net) rows.source
    pub exact : (j : ℕ) → 1 ≤ j → j ≤ net.nodes → ExactRow m (listed m net) rows.width rows.source j (rows.at j)

  -- so it is from an accepted solve to the next reopen: as long as the session is no draft
  abbrev pub RowsStayExact : Type 0
  RowsStayExact = (n : ℕ) (log : List (Logged V)) → Kept m n log → ¬ (stage log ≡ drafting) → ExactRows (network n log) (rows log)
