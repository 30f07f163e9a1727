-- Nodes ranked along the arcs over which first lengths come to first lengths.
use Rattle.std.specs.Prelude.{◌≡◌, ℕ, zero, suc, ◌+◌, ◌-◌, ◌<◌, ◌≤◌, Bool, true, false, List, [], ◌∷◌, length, slice_index}
use Rattle.std.specs.Ordering.{is_eq}
use Rattle.measure.specs.Algebra.{Algebra}
use Rattle.walks.specs.Networks.{Network}
use Rattle.sweeps.specs.Firsts.{told, over_at}

-- how many are not ranked
abbrev pub left : List ℕ → ℕ
left [] = 0
left (zero ∷ rs) = suc (left rs)
left (suc r ∷ rs) = left rs

abbrev pub rank_of : List ℕ → ℕ → ℕ
rank_of ranks j = slice_index ranks (j - 1)

module _ {V : Type 0} (m : Algebra V) (net : Network V) (k : ℕ) (values : List V) (counts : List ℕ) where
  -- the first length at the arc's end comes over the arc
  abbrev pub tight_at : ℕ → Bool
  tight_at a = told is_eq (over_at m net k values counts a)

  -- a tight arc leads to node j from a node that is not ranked
  pub record Blocked (ranks : List ℕ) (j : ℕ) : Type 0 where
    pub arc : ℕ
    pub low : 1 ≤ arc
    pub high : arc ≤ net.arcs
    pub tight : tight_at arc ≡ true
    pub into : net.end arc ≡ j
    pub from : rank_of ranks (net.start arc) ≡ 0

  -- none does
  abbrev pub Free : List ℕ → ℕ → Type 0
  Free ranks j = (a : ℕ) → 1 ≤ a → a ≤ net.arcs → tight_at a ≡ true → net.end a ≡ j → 1 ≤ rank_of ranks (net.start a)

  abbrev pub FreeOr : List ℕ → ℕ → Bool → Type 0
  FreeOr ranks j true = Free ranks j
  FreeOr ranks j false = Blocked ranks j

  -- ranks rise along the tight arcs
  pub record Climbs (ranks : List ℕ) (ranked : ℕ) : Type 0 where
    pub total : ranked + left ranks ≡ length ranks
    pub high : (i : ℕ) → slice_index ranks i ≤ ranked
    pub up : (a : ℕ) → 1 ≤ a → a ≤ net.arcs → tight_at a ≡ true → 1 ≤ rank_of ranks (net.end a) → (1 ≤ rank_of ranks (net.start a)) × (rank_of ranks (net.start a) < rank_of ranks (net.end a))

  -- a tight arc leads to each of the first j nodes that is not ranked from a node that is not
  abbrev pub Stuck : List ℕ → ℕ → Type 0
  Stuck ranks j = (i : ℕ) → i < j → slice_index ranks i ≡ 0 → Blocked ranks (i + 1)

  pub record Scanned (ranked : ℕ) (ranks' : List ℕ) (ranked' : ℕ) : Type 0 where
    pub climbs : Climbs ranks' ranked'
    pub grows : ranked ≤ ranked'
    pub still : ranked' ≡ ranked → Stuck ranks' net.nodes

  abbrev pub Verdict : List ℕ → Bool → Type 0
  Verdict ranks true = (i : ℕ) × (i < net.nodes) × (slice_index ranks i ≡ 0)
  Verdict ranks false = (i : ℕ) → i < net.nodes → 1 ≤ slice_index ranks i

  -- no further node can be ranked, and r says whether one is left
  pub record Ranked (r : Bool) : Type 0 where
    pub ranks : List ℕ
    pub ranked : ℕ
    pub climbs : Climbs ranks ranked
    pub stuck : Stuck ranks net.nodes
    pub verdict : Verdict ranks r
