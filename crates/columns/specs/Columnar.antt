-- A value as a row of whole numbers, its columns, and back.
use Rattle.std.specs.Prelude.{◌≡◌, ℕ, ◌-◌, ◌^◌, ◌<◌, ◌≤◌, min, true, List, length, ℤ, pos, is_some, Some, Option, slice_index_or, unsigned_abs}

pub record Columnar (V : Type 0) : Type 0 where
  -- how many columns each value has
  pub width : ℕ
  -- the columns of a value
  pub tell : V → List ℤ
  -- the value of these columns
  pub build : List ℤ → Option V

-- each number is from -2^62 to 2^62
abbrev pub Ranged : List ℤ → Type 0
Ranged cs = (k : ℕ) → k < length cs → unsigned_abs (slice_index_or cs k (pos 0)) ≤ 2 ^ 62

-- Telling and building are each the inverse of the other, and every row of the right width whose
-- numbers are in range is built.
pub record Inverse {V : Type 0} (m : Columnar V) : Type 0 where
  pub told_width : (a : V) → length (m.tell a) ≡ m.width
  pub told_range : (a : V) → Ranged (m.tell a)
  pub build_tell : (a : V) → m.build (m.tell a) ≡ Some a
  pub tell_build : (cs : List ℤ) (a : V) → m.build cs ≡ Some a → m.tell a ≡ cs
  pub builds : (cs : List ℤ) → length cs ≡ m.width → Ranged cs → is_some (m.build cs) ≡ true

-- a number of columns as far as a machine number tells it
abbrev pub told : ℕ → ℕ
told n = min n (2 ^ 64 - 1)
