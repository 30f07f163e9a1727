-- Rows: the first K of some values, in order.
use Rattle.std.specs.Prelude.{◌≡◌, ℕ, zero, suc, ◌≤◌, ◌⊎◌, List, [], ◌∷◌, length}
use Rattle.measure.specs.Algebra.{Algebra, Before}

-- a row for each node
abbrev pub Table : Type 0 → Type 0
Table V = ℕ → List V

-- x is one of the values
abbrev pub In : {V : Type 0} → V → List V → Type 0
In x [] = ⊥
In x (y ∷ ys) = (x ≡ y) ⊎ In x ys

module _ {V : Type 0} (m : Algebra V) where
  -- y is before every value of the row
  abbrev pub BeforeAll : V → List V → Type 0
  BeforeAll y [] = Unit {0}
  BeforeAll y (z ∷ zs) = Before m y z × BeforeAll y zs

  -- each value is before all that come later
  abbrev pub Ascending : List V → Type 0
  Ascending [] = Unit {0}
  Ascending (y ∷ ys) = BeforeAll y ys × Ascending ys

  -- x is among the first K of the row, or the row has K values and they are before x
  abbrev pub Covers : ℕ → List V → V → Type 0
  Covers zero row x = Unit {0}
  Covers (suc k) [] x = ⊥
  Covers (suc k) (y ∷ ys) x = (x ≡ y) ⊎ (Before m y x × Covers k ys x)

  -- the row has the first K distinct values that P admits
  pub record FirstOf (k : ℕ) (P : V → Type 0) (row : List V) : Type 0 where
    pub ascending : Ascending row
    pub short : length row ≤ k
    pub from : (x : V) → In x row → P x
    pub covers : (x : V) → P x → Covers k row x
