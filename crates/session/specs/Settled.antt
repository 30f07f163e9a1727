-- What a settled session holds, answers and gives back.
use Rattle.std.specs.Prelude.{◌≡◌, ℕ, ◌-◌, ◌*◌, min, true, cond, List, length, take, drop, is_ok, Some, None, Err, Option, Result}
use Rattle.std.specs.List.{slice_get}
use Rattle.measure.specs.Algebra.{Algebra}
use Rattle.walks.specs.Circuits.{NegativeCircuit as NegativeReached, NullCircuit as NullReached}
use Rattle.walks.specs.Rows.{Table}
use Rattle.walks.specs.Theorems.{ExactRow}
use Rattle.sweeps.specs.declared.Arc.{Arc}
use Rattle.sweeps.specs.declared.refusal.Refusal.{Refusal}
use Rattle.sweeps.specs.declared.refusal.Refusal.TheVariants.{NoSuchNode, NoSuchPlace}
use Rattle.sweeps.specs.Tables.{RowsHeld, Whether, Cleared}
use Rattle.session.specs.declared.stages.Settled.{Settled}
use Rattle.session.specs.Nets.{Net, listed}
use Rattle.session.specs.Drafts.{outside, judged, DraftHolds}

-- why no length is answered
abbrev pub length_verdict : ℕ → ℕ → ℕ → ℕ → Option Refusal
length_verdict n k node place = cond (outside n node) (Some NoSuchNode) (cond (outside k place) (Some NoSuchPlace) None)

-- refused for the reason of the verdict, and only for one
abbrev pub Decided : {R : Type 0} → Option Refusal → Result R Refusal → Type 0
Decided (Some why) r = r ≡ Err why
Decided None r = is_ok r ≡ true

module _ {V : Type 0} (m : Algebra V) where
  -- The session and its tables hold this network, from whose source s no circuit before null is reached, and the rows t of the
  -- first k distinct lengths of walks from s to each node.
  pub record SettledHolds (net : Net V) (k s : ℕ) (t : Table V) (session : Settled) (arcs : List Arc) (lengths values : List V) (counts : List ℕ) : Type 0 where
    pub draft : DraftHolds m net session.draft arcs lengths
    pub width : session.order.k ≡ k
    pub from : session.order.source ≡ s
    pub held : RowsHeld m net.nodes k values counts t
    pub sound : ¬ NegativeReached m (listed m net) s
    pub exact : (j : ℕ) → ExactRow m (listed m net) k s j (t j)
    pub null_told : Whether session.null (NullReached m (listed m net) s)

  -- the length at a place of a node's row, counted from 1, or none if the row is shorter
  abbrev pub length_answer : ℕ → ℕ → Table V → ℕ → ℕ → Result (Option V) Refusal
  length_answer n k t node place = judged (length_verdict n k node place) (slice_get (t node) (place - 1))

  -- the first n × k values are null and the first n counts 0, as far as the tables reach; the other cells are as they were
  pub record Emptied (n k : ℕ) (values : List V) (counts : List ℕ) (values' : List V) (counts' : List ℕ) : Type 0 where
    pub rows : Cleared m (min (n * k) (length values)) (min n (length counts)) (take (n * k) values') (take n counts')
    pub past_values : drop (n * k) values' ≡ drop (n * k) values
    pub past_counts : drop n counts' ≡ drop n counts
