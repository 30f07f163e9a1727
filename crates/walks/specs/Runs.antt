-- The sweeps over a network, and how they end, in plain words.
use Rattle.std.specs.Prelude.{◌≡◌, ℕ, zero, suc, ◌<◌, ◌≤◌, Bool, true, false, ◌⊎◌}
use Rattle.measure.specs.Algebra.{Algebra}
use Rattle.walks.specs.Networks.{Network, Open}
use Rattle.walks.specs.Rows.{Table, In, FirstOf}
use Rattle.walks.specs.Method.{odd}
use Rattle.walks.specs.Solves.{last_pass}

-- a pass down takes arcs from a higher node to a lower one, a pass up those from a lower to a higher
abbrev pub Takes : Bool → ℕ → ℕ → Type 0
Takes true i j = j < i
Takes false i j = i < j

module _ {V : Type 0} (m : Algebra V) (net : Network V) (k : ℕ) (s : ℕ) where
  -- x is the join of a length at the start of an open arc into j with that arc's length; the start's row is the one that
  -- this pass leaves, since the pass comes to the start before it comes to j
  pub record Joined (down : Bool) (new : Table V) (j : ℕ) (x : V) : Type 0 where
    pub arc : ℕ
    pub is_open : Open net arc
    pub into : net.end arc ≡ j
    pub taken : Takes down (net.start arc) j
    pub old : V
    pub there : In old (new (net.start arc))
    pub sum : x ≡ m.plus old (net.arc_length arc)

  -- what node j may keep: its old values, and the joins
  abbrev pub Offered : Bool → Table V → Table V → ℕ → V → Type 0
  Offered down old new j x = In x (old j) ⊎ Joined down new j x

  -- a pass leaves every node the first K of these
  abbrev pub Pass : Bool → Table V → Table V → Type 0
  Pass down old new = (j : ℕ) → FirstOf m k (Offered down old new j) (new j)

  -- the source has null alone, the other rows are empty
  abbrev pub Start : Table V → Type 0
  Start t = (j : ℕ) → FirstOf m k (λ x. (j ≡ s) × (x ≡ m.null)) (t j)

  -- odd passes go down, even passes up
  pub record Run (rows : ℕ → Table V) : Type 0 where
    pub start : Start (rows 0)
    pub passes : (p : ℕ) → Pass (odd (suc p)) (rows p) (rows (suc p))

-- pass p changes no row
abbrev pub Unchanged : {V : Type 0} → Network V → (ℕ → Table V) → ℕ → Type 0
Unchanged net rows zero = ⊥
Unchanged net rows (suc p) = (j : ℕ) → 1 ≤ j → j ≤ net.nodes → rows (suc p) j ≡ rows p j

module _ {V : Type 0} (m : Algebra V) (net : Network V) (k s : ℕ) (rows : ℕ → Table V) where
  -- pass p ends the solve
  pub record Settles (p : ℕ) : Type 0 where
    pub second : 2 ≤ p
    pub in_time : p ≤ last_pass m net k s
    pub unchanged : Unchanged net rows p
    pub first : (q : ℕ) → 2 ≤ q → q < p → ¬ Unchanged net rows q

  -- no pass ends it
  abbrev pub NeverSettles : Type 0
  NeverSettles = (p : ℕ) → 2 ≤ p → p ≤ last_pass m net k s → ¬ Unchanged net rows p
