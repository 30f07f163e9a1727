-- The laws of the measure of hauls, and that joining by the larger amounts breaks one.
use Rattle.std.specs.Prelude.{◌≡◌, ℕ, ◌+◌, ◌*◌, ◌^◌, ◌≤◌, refl}
use Rattle.std.specs.declared.cmp.Ordering.TheVariants.{Less, Equal}
use Rattle.std.specs.declared.cmp.Ordering.{Ordering}
use Rattle.std.proofs.Common.{◌∙◌, add_comm, arith, lit≤}
use mathlib.Core.HLevel.{is_prop→PathP}
use Rattle.std.proofs.Math.Bridge.{le_prop}
use Rattle.std.proofs.lemmas.Bool.Decides.{nat_tests}
use Rattle.std.proofs.lemmas.Cmp.{nat_cmp_total, on_total, then_total, tied_itself}
use Rattle.std.specs.Cmp.{IsTotalOrder}
use Rattle.std.specs.Ordering.{nat_cmp, ordering_then, ordering_reverse}
use Rattle.measure.specs.Algebra.{Laws}
use Rattle.haulage.specs.declared.haul.Haul.{Haul}
use Rattle.haulage.specs.Hauls.{weight, fuel_in, minutes_in, clamped, ranked, haul_algebra, larger_algebra}

-- hauls are the same if their fuel and their minutes are
pub haul_same : (a b : Haul) → a.fuel ≡ b.fuel → a.minutes ≡ b.minutes → a ≡ b
haul_same a b p q = λ j. record { fuel = p j; minutes = q j; ok = is_prop→PathP (λ k. 3 * p k + 2 * q k ≤ 2 ^ 62) (λ k. le_prop) a.ok b.ok j }

-- what fits is not cut
fuel_kept : (fuel minutes : ℕ) → 3 * fuel + 2 * minutes ≤ 2 ^ 62 → fuel_in fuel ≡ fuel
fuel_kept fuel minutes h = omega arith

minutes_kept : (fuel minutes : ℕ) → 3 * fuel + 2 * minutes ≤ 2 ^ 62 → minutes_in fuel minutes ≡ minutes
minutes_kept fuel minutes h = let e = fuel_kept fuel minutes h in omega arith

by_weight : IsTotalOrder ranked
by_weight = then_total (on_total weight nat_cmp_total) (on_total (λ (h : Haul). h.fuel) nat_cmp_total)

-- the order over plain numbers: a weight and a fuel, then another weight and fuel
abbrev order : ℕ → ℕ → ℕ → ℕ → Ordering
order w f x g = ordering_then (nat_cmp w x) (nat_cmp f g)

order_equal : (w f x g : ℕ) → order w f x g ≡ Equal → (w ≡ x) × (f ≡ g)
order_equal w f x g h = grind (arith, nat_tests)

order_self : (w f : ℕ) → order w f w f ≡ Equal
order_self w f = grind (arith, nat_tests)

order_converse : (w f x g : ℕ) → order x g w f ≡ ordering_reverse (order w f x g)
order_converse w f x g = grind (arith, nat_tests)

order_trans : (w f x g y h : ℕ) → order w f x g ≡ Less → order x g y h ≡ Less → order w f y h ≡ Less
order_trans w f x g y h p q = grind (arith, nat_tests)

-- as much added to both weights and to both fuels
order_kept : (w f x g y h : ℕ) {w' f' x' g' : ℕ} → w' ≡ w + y → f' ≡ f + h → x' ≡ x + y → g' ≡ g + h → order w f x g ≡ Less → order w' f' x' g' ≡ Less
order_kept w f x g y h p q r s k = grind (arith, nat_tests)

-- a join that is present has the sums of its parts, and weighs as much as they
joined_fuel : (a b : Haul) → weight a + weight b ≤ 2 ^ 62 → (haul_algebra.plus a b).fuel ≡ a.fuel + b.fuel
joined_fuel a b h = fuel_kept (a.fuel + b.fuel) (a.minutes + b.minutes) (omega arith)

joined_minutes : (a b : Haul) → weight a + weight b ≤ 2 ^ 62 → (haul_algebra.plus a b).minutes ≡ a.minutes + b.minutes
joined_minutes a b h = minutes_kept (a.fuel + b.fuel) (a.minutes + b.minutes) (omega arith)

joined_weight : (a b : Haul) → weight a + weight b ≤ 2 ^ 62 → weight (haul_algebra.plus a b) ≡ weight a + weight b
joined_weight a b h = let f = joined_fuel a b h in let m = joined_minutes a b h in omega arith

-- both bracketings of three, over plain numbers
regrouped : (a b c p q r s : ℕ) → p ≡ a + b → q ≡ b + c → r ≡ p + c → s ≡ a + q → r ≡ s
regrouped a b c p q r s e f g h = omega arith

associates : (a b c : Haul) → weight a + weight b + weight c ≤ 2 ^ 62 → haul_algebra.plus (haul_algebra.plus a b) c ≡ haul_algebra.plus a (haul_algebra.plus b c)
associates a b c h =
    let ab = haul_algebra.plus a b in
    let bc = haul_algebra.plus b c in
    let f : weight a + weight b ≤ 2 ^ 62 = omega arith in
    let g : weight b + weight c ≤ 2 ^ 62 = omega arith in
    let p : weight ab + weight c ≤ 2 ^ 62 = (let x = joined_weight a b f in omega arith) in
    let q : weight a + weight bc ≤ 2 ^ 62 = (let x = joined_weight b c g in omega arith) in
    haul_same _ _
    (regrouped a.fuel b.fuel c.fuel _ _ _ _ (joined_fuel a b f) (joined_fuel b c g) (joined_fuel ab c p) (joined_fuel a bc q))
    (regrouped a.minutes b.minutes c.minutes _ _ _ _ (joined_minutes a b f) (joined_minutes b c g) (joined_minutes ab c p) (joined_minutes a bc q))

-- equal weights and equal fuel leave equal minutes
minutes_same : (f m g n : ℕ) → 3 * f + 2 * m ≡ 3 * g + 2 * n → f ≡ g → m ≡ n
minutes_same f m g n p q = omega arith

pub haul_laws : Laws haul_algebra
haul_laws = record {
  bounded = λ a. a.ok;
  same = λ a b e.
      let h = order_equal (weight a) a.fuel (weight b) b.fuel e in
      haul_same a b h.1 (minutes_same a.fuel a.minutes b.fuel b.minutes h.0 h.1);
  same_self = tied_itself by_weight;
  converse = λ a b. by_weight.antisymm b a;
  transitive = by_weight.trans;
  associative = associates;
  null_magnitude = refl;
  null_left = λ a. haul_same _ _ (joined_fuel (clamped 0 0) a (omega arith) ∙ omega arith) (joined_minutes (clamped 0 0) a (omega arith) ∙ omega arith);
  null_right = λ a. haul_same _ _ (joined_fuel a (clamped 0 0) (omega arith) ∙ omega arith) (joined_minutes a (clamped 0 0) (omega arith) ∙ omega arith);
  right_monotone = λ a b c p f g.
      order_kept (weight a) a.fuel (weight b) b.fuel (weight c) c.fuel
      (joined_weight a c f) (joined_fuel a c f) (joined_weight b c g) (joined_fuel b c g) p;
  left_monotone = λ a b c p f g.
      order_kept (weight a) a.fuel (weight b) b.fuel (weight c) c.fuel
      (joined_weight c a f ∙ add_comm _ _) (joined_fuel c a f ∙ add_comm _ _) (joined_weight c b g ∙ add_comm _ _) (joined_fuel c b g ∙ add_comm _ _) p;
  subadditive = λ a b f. let e = joined_weight a b f in omega arith;
}

-- one litre is before two, yet both join with five to five
pub larger_fails : Laws larger_algebra → ⊥
larger_fails l =
    let h = l.right_monotone (clamped 1 0) (clamped 2 0) (clamped 5 0) refl (lit≤ tt) (lit≤ tt) in
    let z : ◌≡◌ {A = ℕ} 0 1 = cc in
    omega arith
