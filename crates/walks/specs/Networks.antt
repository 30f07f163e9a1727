-- Networks of nodes and arcs.
use Rattle.std.specs.Prelude.{◌≡◌, ℕ, ◌^◌, ◌≤◌, Bool, true}
use Rattle.measure.specs.Algebra.{Algebra}

-- Nodes go by the numbers 1 to `nodes` and arcs by the numbers 1 to `arcs`, each with a start, an end,
-- a length and a mark. What the four functions say of other numbers is never looked at.
pub record Network (V : Type 0) : Type 0 where
  pub nodes : ℕ
  pub arcs : ℕ
  pub start : ℕ → ℕ
  pub end : ℕ → ℕ
  pub arc_length : ℕ → V
  pub is_open : ℕ → Bool

-- a is the number of an open arc
pub record Open {V : Type 0} (net : Network V) (a : ℕ) : Type 0 where
  pub low : 1 ≤ a
  pub high : a ≤ net.arcs
  pub marked : net.is_open a ≡ true

module _ {V : Type 0} (m : Algebra V) (net : Network V) where
  -- arc a leads from one node to another, and its length is at most 10^9 in magnitude
  pub record ProperArc (a : ℕ) : Type 0 where
    pub start_low : 1 ≤ net.start a
    pub start_high : net.start a ≤ net.nodes
    pub end_low : 1 ≤ net.end a
    pub end_high : net.end a ≤ net.nodes
    pub apart : ¬ (net.start a ≡ net.end a)
    pub small : m.magnitude (net.arc_length a) ≤ 10 ^ 9

  -- every open arc is proper
  abbrev pub WellFormed : Type 0
  WellFormed = (a : ℕ) → Open net a → ProperArc a
