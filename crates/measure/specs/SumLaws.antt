-- The laws of the measure of whole numbers.
use Rattle.std.specs.Prelude.{◌≡◌, ◌+◌, ◌^◌, ◌≤◌, cond, ℤ, pos, negsuc, ◌+ℤ◌, ◌<ℤ◌, Some, None, Option, unsigned_abs, refl}
use Rattle.std.specs.declared.cmp.Ordering.TheVariants.{Less, Equal}
use Rattle.std.proofs.Common.{sym, ap, subst, ◌∙◌, arith, le-leb}
use mathlib.Core.HLevel.{is_prop→PathP}
use Rattle.std.proofs.Math.Bridge.{le_prop}
use Rattle.std.proofs.Math.IntN.{+ℤ_assoc, +ℤ_idl, +ℤ_idr}
use Rattle.std.proofs.lemmas.Int.{ints}
use Rattle.std.specs.Int.{int_max, int_min}
use Rattle.std.specs.Ordering.{ordering_reverse}
use Rattle.measure.specs.declared.sum.Sum.{Sum}
use Rattle.measure.specs.Algebra.{Laws, joined}
use Rattle.measure.specs.Sums.{nearest, clamped, compare_z, sum_algebra}

pub sum_same : (a b : Sum) → a.value ≡ b.value → a ≡ b
sum_same a b e = λ j. record { value = e j; ok = is_prop→PathP (λ k. unsigned_abs (e k) ≤ 2 ^ 62) (λ k. le_prop) a.ok b.ok j }

pub nearest_in : (z : ℤ) → unsigned_abs z ≤ 2 ^ 62 → nearest z ≡ z
nearest_in (pos n) h = ap pos (omega arith)
nearest_in (negsuc n) h = ap negsuc (omega arith)

pub nat_abs_sum : (a b : ℤ) → unsigned_abs (a +ℤ b) ≤ unsigned_abs a + unsigned_abs b
nat_abs_sum a b = grind (arith, ints)

compare_equal : (a b : ℤ) → compare_z a b ≡ Equal → a ≡ b
compare_equal a b h = grind (arith, ints)

compare_self : (a : ℤ) → compare_z a a ≡ Equal
compare_self a = grind (arith, ints)

compare_converse : (a b : ℤ) → compare_z b a ≡ ordering_reverse (compare_z a b)
compare_converse a b = grind (arith, ints)

compare_less : (a b : ℤ) → compare_z a b ≡ Less → a <ℤ b
compare_less a b h = grind (arith, ints)

less_compare : (a b : ℤ) → a <ℤ b → compare_z a b ≡ Less
less_compare a b h = grind (arith, ints)

compare_trans : (a b c : ℤ) → compare_z a b ≡ Less → compare_z b c ≡ Less → compare_z a c ≡ Less
compare_trans a b c p q = let x = compare_less a b p in let y = compare_less b c q in less_compare a c (omega (arith, ints))

pub clamp_nearest : (z : ℤ) → int_max (negsuc 4611686018427387903) (int_min z (pos 4611686018427387904)) ≡ nearest z
clamp_nearest (pos n) = grind (arith, ints)
clamp_nearest (negsuc n) = grind (arith, ints)

-- a sum whose parts fit is not clamped
sum_in : (a b : Sum) → unsigned_abs a.value + unsigned_abs b.value ≤ 2 ^ 62 → (clamped (a.value +ℤ b.value)).value ≡ a.value +ℤ b.value
sum_in a b h = let n = nat_abs_sum a.value b.value in nearest_in (a.value +ℤ b.value) (omega arith)

pub join_in : (a b r : Sum) → unsigned_abs a.value + unsigned_abs b.value ≤ 2 ^ 62 → r.value ≡ a.value +ℤ b.value → ◌≡◌ {A = Option Sum} (Some r) (joined sum_algebra a b)
join_in a b r h e =
    ap Some (sum_same r (clamped (a.value +ℤ b.value)) (e ∙ sym (sum_in a b h))) ∙ ap (λ t. cond t (Some (clamped (a.value +ℤ b.value))) None) (sym (le-leb _ _ h))

associates : (a b c : Sum) → unsigned_abs a.value + unsigned_abs b.value + unsigned_abs c.value ≤ 2 ^ 62 → nearest (nearest (a.value +ℤ b.value) +ℤ c.value) ≡ nearest (a.value +ℤ nearest (b.value +ℤ c.value))
associates a b c h =
    let x = sum_in a b (omega arith) in
    let y = sum_in b c (omega arith) in
    ap (λ z. nearest (z +ℤ c.value)) x ∙ ap nearest (+ℤ_assoc a.value b.value c.value) ∙ sym (ap (λ z. nearest (a.value +ℤ z)) y)

pub sum_laws : Laws sum_algebra
sum_laws = record {
  bounded = λ a. a.ok;
  same = λ a b e. sum_same a b (compare_equal a.value b.value e);
  same_self = λ a. compare_self a.value;
  converse = λ a b. compare_converse a.value b.value;
  transitive = λ a b c p q. compare_trans a.value b.value c.value p q;
  associative = λ a b c h. sum_same _ _ (associates a b c h);
  null_magnitude = refl;
  null_left = λ a. sum_same _ _ (ap nearest (+ℤ_idl a.value) ∙ nearest_in a.value a.ok);
  null_right = λ a. sum_same _ _ (ap nearest (+ℤ_idr a.value) ∙ nearest_in a.value a.ok);
  right_monotone = λ a b c p f g.
      let x = compare_less a.value b.value p in
      let y = sum_in a c f in
      let z = sum_in b c g in
      less_compare (nearest (a.value +ℤ c.value)) (nearest (b.value +ℤ c.value)) (omega (arith, ints));
  left_monotone = λ a b c p f g.
      let x = compare_less a.value b.value p in
      let y = sum_in c a f in
      let z = sum_in c b g in
      less_compare (nearest (c.value +ℤ a.value)) (nearest (c.value +ℤ b.value)) (omega (arith, ints));
  subadditive = λ a b f. let x = sum_in a b f in let n = nat_abs_sum a.value b.value in subst (λ z. unsigned_abs z ≤ unsigned_abs a.value + unsigned_abs b.value) (sym x) n;
}
