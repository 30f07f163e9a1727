-- What a session's solve answers, writes and means.
use Rattle.std.specs.Prelude.{◌≡◌, ℕ, ◌*◌, ◌≤◌, cond, ◌||◌, List, length, take, drop, Some, None, Ok, Err, Option, Result, nat_lt}
use Rattle.measure.specs.Algebra.{Algebra}
use Rattle.walks.specs.Circuits.{NegativeCircuit as NegativeReached, NullCircuit as NullReached}
use Rattle.walks.specs.Method.{rows}
use Rattle.walks.specs.Solves.{settled, refused, outcome}
use Rattle.sweeps.specs.declared.Arc.{Arc}
use Rattle.sweeps.specs.declared.Solved.{Solved}
use Rattle.sweeps.specs.declared.order.Order.{Order}
use Rattle.sweeps.specs.declared.refusal.Refusal.{Refusal}
use Rattle.sweeps.specs.declared.refusal.Refusal.TheVariants.{NoSuchNode, ShortTables, NegativeCircuit}
use Rattle.sweeps.specs.Tables.{Whether, Cleared}
use Rattle.session.specs.declared.stages.Draft.{Draft}
use Rattle.session.specs.declared.stages.Settled.{Settled}
use Rattle.session.specs.Nets.{Net, listed}
use Rattle.session.specs.Drafts.{DraftHolds}
use Rattle.session.specs.Settled.{SettledHolds}

-- why a solve does not begin; v and c are the sizes of the value and count tables
abbrev pub begin_verdict : ℕ → ℕ → ℕ → ℕ → ℕ → Option Refusal
begin_verdict n k s v c = cond (nat_lt n s) (Some NoSuchNode) (cond (nat_lt v (n * k) || nat_lt c n) (Some ShortTables) None)

abbrev pub Answer : Type 0
Answer = Result (Settled × Solved) (Draft × Refusal)

module _ {V : Type 0} (m : Algebra V) where
  -- only the cells of the n rows and n counts may have changed
  pub record RowsOnly (n k : ℕ) (values : List V) (counts : List ℕ) (values' : List V) (counts' : List ℕ) : Type 0 where
    pub value_size : length values' ≡ length values
    pub count_size : length counts' ≡ length counts
    pub past_values : drop (n * k) values' ≡ drop (n * k) values
    pub past_counts : drop n counts' ≡ drop n counts

  -- what the answer gives back, and what a refusal leaves: all as it was, but cleared rows after a circuit before null
  abbrev pub Given : Draft → Order → List V → List ℕ → Option Refusal → Answer → List V → List ℕ → Type 0
  Given d o values counts (Some why) r values' counts' = (r ≡ Err (d, why)) × (values' ≡ values) × (counts' ≡ counts)
  Given d o values counts None (Ok p) values' counts' = (p.0.draft ≡ d) × (p.0.order ≡ o) × (p.0.null ≡ p.1.null)
  Given d o values counts None (Err p) values' counts' =
      (p.0 ≡ d) × (p.1 ≡ NegativeCircuit) × Cleared m (d.nodes * o.k) d.nodes (take (d.nodes * o.k) values') (take d.nodes counts')

  pub record SolveDone (d : Draft) (o : Order) (values : List V) (counts : List ℕ) (r : Answer) (values' : List V) (counts' : List ℕ) : Type 0 where
    pub given : Given d o values counts (begin_verdict d.nodes o.k o.source (length values) (length counts)) r values' counts'
    pub frame : RowsOnly d.nodes o.k values counts values' counts'

  -- an accepted solve: the method's passes and rows, which are exact, and whether a null circuit is reached
  pub record Accepted (net : Net V) (k s : ℕ) (p : Settled × Solved) (arcs : List Arc) (lengths values' : List V) (counts' : List ℕ) : Type 0 where
    pub ended : outcome m (listed m net) k s ≡ settled p.1.passes
    pub few : p.1.passes ≤ 2 * (net.nodes * k)
    pub holds : SettledHolds m net k s (rows m (listed m net) k s p.1.passes) p.0 arcs lengths values' counts'
    pub null_told : Whether p.1.null (NullReached m (listed m net) s)

  -- a refused one: the method refuses, since a circuit before null is reached
  pub record Declined (net : Net V) (k s : ℕ) (p : Draft × Refusal) (arcs : List Arc) (lengths : List V) : Type 0 where
    pub ended : outcome m (listed m net) k s ≡ refused
    pub circuit : NegativeReached m (listed m net) s
    pub holds : DraftHolds m net p.0 arcs lengths

  abbrev pub SolveMeant : Net V → ℕ → ℕ → Option Refusal → Answer → List Arc → List V → List V → List ℕ → Type 0
  SolveMeant net k s (Some why) r arcs lengths values' counts' = Unit {0}
  SolveMeant net k s None (Ok p) arcs lengths values' counts' = Accepted net k s p arcs lengths values' counts'
  SolveMeant net k s None (Err p) arcs lengths values' counts' = Declined net k s p arcs lengths
