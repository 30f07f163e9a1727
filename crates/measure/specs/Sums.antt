-- The measure of whole numbers under addition.
use Rattle.std.specs.Prelude.{◌-◌, ◌^◌, ◌≤◌, min, cond, ℤ, pos, negsuc, ◌+ℤ◌, int_lt, unsigned_abs}
use Rattle.std.specs.declared.cmp.Ordering.TheVariants.{Less, Equal, Greater}
use Rattle.std.specs.declared.cmp.Ordering.{Ordering}
use Rattle.std.proofs.Common.{arith}
use Rattle.measure.specs.declared.sum.Sum.{Sum}
use Rattle.measure.specs.Algebra.{Algebra}

-- the nearest number from -2^62 to 2^62; negsuc n is -(n + 1)
abbrev pub nearest : ℤ → ℤ
nearest (pos n) = pos (min n (2 ^ 62))
nearest (negsuc n) = negsuc (min n (2 ^ 62 - 1))

pub nearest_fits : (z : ℤ) → unsigned_abs (nearest z) ≤ 2 ^ 62
nearest_fits (pos n) = omega arith
nearest_fits (negsuc n) = omega arith

abbrev pub clamped : ℤ → Sum
clamped z = record { value = nearest z; ok = nearest_fits z }

-- by size
abbrev pub compare_z : ℤ → ℤ → Ordering
compare_z a b = cond (int_lt a b) Less (cond (int_lt b a) Greater Equal)

abbrev pub sum_algebra : Algebra Sum
sum_algebra = record {
  null = clamped (pos 0);
  magnitude = λ a. unsigned_abs a.value;
  plus = λ a b. clamped (a.value +ℤ b.value);
  compare = λ a b. compare_z a.value b.value;
}
