-- The measure of hauls: what its four answers are.
use Rattle.std.specs.Prelude.{ℕ, ◌+◌, ◌-◌, ◌*◌, ◌/◌, ◌^◌, ◌≤◌, min, max}
use Rattle.std.specs.declared.cmp.Ordering.{Ordering}
use Rattle.std.proofs.Common.{arith}
use Rattle.std.specs.Ordering.{nat_cmp, on, then_cmp}
use Rattle.measure.specs.Algebra.{Algebra}
use Rattle.haulage.specs.declared.haul.Haul.{Haul}

-- three for a litre, two for a minute
abbrev pub weight : Haul → ℕ
weight h = 3 * h.fuel + 2 * h.minutes

-- what fits of so much fuel, and beside it of so many minutes
abbrev pub fuel_in : ℕ → ℕ
fuel_in fuel = min fuel (2 ^ 62 / 3)

abbrev pub minutes_in : ℕ → ℕ → ℕ
minutes_in fuel minutes = min minutes ((2 ^ 62 - 3 * fuel_in fuel) / 2)

pub clamped_fits : (fuel minutes : ℕ) → 3 * fuel_in fuel + 2 * minutes_in fuel minutes ≤ 2 ^ 62
clamped_fits fuel minutes = omega arith

abbrev pub clamped : ℕ → ℕ → Haul
clamped fuel minutes = record { fuel = fuel_in fuel; minutes = minutes_in fuel minutes; ok = clamped_fits fuel minutes }

-- by weight, then by fuel
abbrev pub ranked : Haul → Haul → Ordering
ranked = then_cmp (on weight nat_cmp) (on (λ h. h.fuel) nat_cmp)

abbrev pub haul_algebra : Algebra Haul
haul_algebra = record {
  null = clamped 0 0;
  magnitude = weight;
  plus = λ a b. clamped (a.fuel + b.fuel) (a.minutes + b.minutes);
  compare = ranked;
}

-- the same but for the join, which takes the larger of two amounts: no measure, as it breaks the fourth law
abbrev pub larger_algebra : Algebra Haul
larger_algebra = record {
  null = clamped 0 0;
  magnitude = weight;
  plus = λ a b. clamped (max a.fuel b.fuel) (max a.minutes b.minutes);
  compare = ranked;
}
