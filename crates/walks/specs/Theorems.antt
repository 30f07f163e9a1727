-- What is true of every solve within the limits.
use Rattle.std.specs.Prelude.{◌≡◌, ℕ, ◌+◌, ◌*◌, ◌≤◌, List, ◌∷◌, take}
use Rattle.measure.specs.Algebra.{Algebra, Before, Joinable}
use Rattle.walks.specs.Networks.{Network, Open, WellFormed}
use Rattle.walks.specs.Walks.{Walk, walk_length, Counted}
use Rattle.walks.specs.Circuits.{NegativeCircuit}
use Rattle.walks.specs.Rows.{Table, In, FirstOf}
use Rattle.walks.specs.Method.{rows}
use Rattle.walks.specs.Runs.{Run, Settles, NeverSettles}
use Rattle.walks.specs.Solves.{settled, refused, last_pass, outcome}

module _ {V : Type 0} (m : Algebra V) (net : Network V) where
  -- the limits of a network, of K and of the source
  pub record Within (k s : ℕ) : Type 0 where
    pub formed : WellFormed m net
    pub nodes_high : net.nodes ≤ 1000
    pub k_low : 1 ≤ k
    pub k_high : k ≤ 20
    pub s_low : 1 ≤ s
    pub s_high : s ≤ net.nodes

  -- x is the length of a walk from s to j
  pub record LengthOf (s j : ℕ) (x : V) : Type 0 where
    pub walk : List ℕ
    pub leads : Walk net s j walk
    pub counted : Counted m net walk
    pub is : walk_length m net walk ≡ x

  -- the row has the first K distinct lengths of walks from s to j
  abbrev pub ExactRow : ℕ → ℕ → ℕ → List V → Type 0
  ExactRow k s j row = FirstOf m k (LengthOf s j) row

-- the rows as computed are a run in plain words, there is only one run, and the outcome is what the passes of the run say
pub record InWords {V : Type 0} (m : Algebra V) (net : Network V) (k s : ℕ) : Type 0 where
  pub is_run : Run m net k s (rows m net k s)
  pub only_one : (one other : ℕ → Table V) → Run m net k s one → Run m net k s other → (p j : ℕ) → one p j ≡ other p j
  pub settles : (run : ℕ → Table V) → Run m net k s run → (p : ℕ) → (outcome m net k s ≡ settled p → Settles m net k s run p) × (Settles m net k s run p → outcome m net k s ≡ settled p)
  pub refuses : (run : ℕ → Table V) → Run m net k s run → (outcome m net k s ≡ refused → NeverSettles m net k s run) × (NeverSettles m net k s run → outcome m net k s ≡ refused)

module _ {V : Type 0} (m : Algebra V) where
  -- so it is for every network
  abbrev pub MethodInWords : Type 0
  MethodInWords = (net : Network V) (k s : ℕ) → WellFormed m net → 1 ≤ k → InWords m net k s

  -- settled rows are exact
  abbrev pub SettledExact : Type 0
  SettledExact = (net : Network V) (k s : ℕ) → Within m net k s → (p : ℕ) → outcome m net k s ≡ settled p → (j : ℕ) → ExactRow m net k s j (rows m net k s p j)

  -- a solve is refused exactly when a walk from the source reaches a circuit before null
  abbrev pub RefusedExactly : Type 0
  RefusedExactly = (net : Network V) (k s : ℕ) → Within m net k s → (outcome m net k s ≡ refused → NegativeCircuit m net s) × (NegativeCircuit m net s → outcome m net k s ≡ refused)

  -- a settled solve took from 2 to N × K + 1 passes, which is at most 2 × N × K
  abbrev pub FewPasses : Type 0
  FewPasses = (net : Network V) (k s : ℕ) → Within m net k s → (p : ℕ) → outcome m net k s ≡ settled p → (2 ≤ p) × (p ≤ net.nodes * k + 1) × (p ≤ 2 * (net.nodes * k))

  -- No join is absent: whatever stands in a row after any pass of a solve can be joined with the length of every open arc
  -- from there. (When a pass works on a node it has finished the rows that it joins from.)
  abbrev pub JoinsPresent : Type 0
  JoinsPresent = (net : Network V) (k s : ℕ) → Within m net k s → (p a : ℕ) (x : V) → p ≤ last_pass m net k s → Open net a → In x (rows m net k s p (net.start a)) → Joinable m x (net.arc_length a)

  -- the row of a smaller K is the beginning of the row of a larger K: so for any two such rows, and so for two solves
  abbrev pub RowsBegin : Type 0
  RowsBegin = (net : Network V) (k l s j : ℕ) (row more : List V) → k ≤ l → ExactRow m net k s j row → ExactRow m net l s j more → row ≡ take k more

  abbrev pub SolvesBegin : Type 0
  SolvesBegin = (net : Network V) (k l s p q j : ℕ) → Within m net k s → Within m net l s → k ≤ l → outcome m net k s ≡ settled p → outcome m net l s ≡ settled q → rows m net k s p j ≡ take k (rows m net l s q j)

  -- Without a circuit before null the first lengths are at rest after pass N: an open arc over which its start's first length
  -- would come before its end's first length then means refusal.
  abbrev pub FirstsRest : Type 0
  FirstsRest = (net : Network V) (k s : ℕ) → Within m net k s → (p a : ℕ) (x y : V) (xs ys : List V) → net.nodes ≤ p → p ≤ last_pass m net k s → Open net a
      → rows m net k s p (net.start a) ≡ x ∷ xs → rows m net k s p (net.end a) ≡ y ∷ ys → Before m (m.plus x (net.arc_length a)) y → outcome m net k s ≡ refused
