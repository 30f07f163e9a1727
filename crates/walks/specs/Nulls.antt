-- Null circuits, told by the arcs that carry first lengths to first lengths.
use Rattle.std.specs.Prelude.{◌≡◌, ℕ, zero, suc, ◌<◌, ◌≤◌, Bool, true, false, not, ◌&&◌, List, [], ◌∷◌, ◌==◌}
use Rattle.measure.specs.Algebra.{Algebra}
use Rattle.walks.specs.Networks.{Network, Open}
use Rattle.walks.specs.Walks.{Walk}
use Rattle.walks.specs.Circuits.{NullCircuit}
use Rattle.walks.specs.Rows.{Table}
use Rattle.walks.specs.Method.{choose, rows}
use Rattle.walks.specs.Solves.{settled, outcome}
use Rattle.walks.specs.Theorems.{Within}

module _ {V : Type 0} (m : Algebra V) (net : Network V) (t : Table V) where
  -- x is the first length of node j
  pub record FirstLength (j : ℕ) (x : V) : Type 0 where
    pub rest : List V
    pub is : t j ≡ x ∷ rest

  -- arc a is open and carries the first length of its start to the first length of its end; both are reached, then
  pub record Tight (a : ℕ) : Type 0 where
    pub is_open : Open net a
    pub there : V
    pub here : V
    pub start : FirstLength (net.start a) there
    pub end : FirstLength (net.end a) here
    pub sum : m.plus there (net.arc_length a) ≡ here

  -- every arc is tight
  abbrev pub AllTight : List ℕ → Type 0
  AllTight [] = Unit {0}
  AllTight (a ∷ w) = Tight a × AllTight w

  -- a circuit of tight arcs
  pub record Ring : Type 0 where
    pub at : ℕ
    pub last : ℕ
    pub rest : List ℕ
    pub round : Walk net at at (last ∷ rest)
    pub tight : AllTight (last ∷ rest)

  -- a tight arc leads to j from a node without a mark
  pub record Held (mark : ℕ → Bool) (j : ℕ) : Type 0 where
    pub arc : ℕ
    pub tight : Tight arc
    pub into : net.end arc ≡ j
    pub from : mark (net.start arc) ≡ false

  -- The marking: in each round a node is marked if all tight arcs into it come from nodes that were marked in the round before.
  -- (A node that is not reached has no tight arc into it, so it is marked in round 1.)

  -- the first of xs joined with l is the first of ys
  abbrev pub carries : List V → V → List V → Bool
  carries [] l ys = false
  carries (x ∷ xs) l [] = false
  carries (x ∷ xs) l (y ∷ ys) = choose (m.compare (m.plus x l) y) false true false

  -- arc a is tight
  abbrev pub is_tight : ℕ → Bool
  is_tight a = net.is_open a && carries (t (net.start a)) (net.arc_length a) (t (net.end a))

  -- the second, if the first
  abbrev pub implies : Bool → Bool → Bool
  implies true b = b
  implies false b = true

  -- of the arcs 1 to a, those that are tight and lead to j come from marked nodes
  abbrev pub cleared : (ℕ → Bool) → ℕ → ℕ → Bool
  cleared mark j zero = true
  cleared mark j (suc a) = implies (is_tight (suc a) && net.end (suc a) == j) (mark (net.start (suc a))) && cleared mark j a

  -- node j is marked after so many rounds
  abbrev pub marked : ℕ → ℕ → Bool
  marked zero j = false
  marked (suc r) j = cleared (marked r) j net.arcs

  -- the nodes 1 to n are marked after N rounds
  abbrev pub all_marked : ℕ → Bool
  all_marked zero = true
  all_marked (suc j) = marked net.nodes (suc j) && all_marked j

  -- a node is left without a mark after N rounds
  abbrev pub null_found : Bool
  null_found = not (all_marked net.nodes)

module _ {V : Type 0} (m : Algebra V) (net : Network V) (s : ℕ) (t : Table V) where
  -- how the rows t tell whether a walk from s reaches a null circuit
  pub record TellsNulls : Type 0 where
    -- exactly if there is a ring of tight arcs
    pub ring : NullCircuit m net s → Ring m net t
    pub ring_back : Ring m net t → NullCircuit m net s
    -- none, if the nodes can be ranked so that every tight arc climbs
    pub ranked : (rank : ℕ → ℕ) → ((a : ℕ) → Tight m net t a → rank (net.start a) < rank (net.end a)) → ¬ NullCircuit m net s
    -- one, if some nodes have no mark and a tight arc leads to each of them from another of them
    pub held : (mark : ℕ → Bool) → ((j : ℕ) → 1 ≤ j → j ≤ net.nodes → mark j ≡ false → Held m net t mark j) → (j : ℕ) → 1 ≤ j → j ≤ net.nodes → mark j ≡ false → NullCircuit m net s
    -- exactly if the marking leaves a node without a mark
    pub found : null_found m net t ≡ true → NullCircuit m net s
    pub found_back : NullCircuit m net s → null_found m net t ≡ true

-- the rows of every settled solve tell it
abbrev pub NullsTold : {V : Type 0} → Algebra V → Type 0
NullsTold {V} m = (net : Network V) (k s : ℕ) → Within m net k s → (p : ℕ) → outcome m net k s ≡ settled p → TellsNulls m net s (rows m net k s p)
