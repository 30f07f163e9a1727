-- What a measure of length is: a null, a magnitude, a join and an order, with five laws.
use Rattle.std.specs.Prelude.{◌≡◌, ℕ, ◌+◌, ◌^◌, ◌≤◌, cond, Some, None, Option, nat_le}
use Rattle.std.specs.declared.cmp.Ordering.TheVariants.{Less, Equal}
use Rattle.std.specs.declared.cmp.Ordering.{Ordering}
use Rattle.std.specs.Ordering.{ordering_reverse}

-- The four answers of a measure over the values V. `plus` is total so that proofs stay short; a join
-- is `plus` where the two magnitudes sum to at most 2^62 and absent elsewhere (`joined`), and every
-- law about `plus` is asked for only where the joins that it speaks of are present.
pub record Algebra (V : Type 0) : Type 0 where
  -- the length of the walk without arcs
  pub null : V
  pub magnitude : V → ℕ
  pub plus : V → V → V
  -- Less: the first is before the second; Equal: the same; Greater: after
  pub compare : V → V → Ordering

module _ {V : Type 0} (m : Algebra V) where
  abbrev pub Before : V → V → Type 0
  Before a b = m.compare a b ≡ Less

  -- the join of a and b is present
  abbrev pub Joinable : V → V → Type 0
  Joinable a b = m.magnitude a + m.magnitude b ≤ 2 ^ 62

  -- the join as a caller sees it
  abbrev pub joined : V → V → Option V
  joined a b = cond (nat_le (m.magnitude a + m.magnitude b) (2 ^ 62)) (Some (m.plus a b)) None

-- What every measure owes, and every generic function may use.
pub record Laws {V : Type 0} (m : Algebra V) : Type 0 where
  -- a magnitude is from 0 to 2^62
  pub bounded : (a : V) → m.magnitude a ≤ 2 ^ 62
  -- a total order in which the same means the same value
  pub same : (a b : V) → m.compare a b ≡ Equal → a ≡ b
  pub same_self : (a : V) → m.compare a a ≡ Equal
  pub converse : (a b : V) → m.compare b a ≡ ordering_reverse (m.compare a b)
  pub transitive : (a b c : V) → Before m a b → Before m b c → Before m a c
  -- both bracketings of three join alike
  pub associative : (a b c : V) → m.magnitude a + m.magnitude b + m.magnitude c ≤ 2 ^ 62 → m.plus (m.plus a b) c ≡ m.plus a (m.plus b c)
  -- null has magnitude 0 and is neutral on both sides
  pub null_magnitude : m.magnitude m.null ≡ 0
  pub null_left : (a : V) → m.plus m.null a ≡ a
  pub null_right : (a : V) → m.plus a m.null ≡ a
  -- before is kept by a join with the same value on either side
  pub right_monotone : (a b c : V) → Before m a b → Joinable m a c → Joinable m b c → Before m (m.plus a c) (m.plus b c)
  pub left_monotone : (a b c : V) → Before m a b → Joinable m c a → Joinable m c b → Before m (m.plus c a) (m.plus c b)
  -- the magnitude of a join is at most the sum of the two
  pub subadditive : (a b : V) → Joinable m a b → m.magnitude (m.plus a b) ≤ m.magnitude a + m.magnitude b
