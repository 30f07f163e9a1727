-- The laws of a measure with before and after exchanged.
use Rattle.std.proofs.Common.{sym, ap}
use Rattle.measure.specs.declared.reversed.Reversed.{Reversed}
use Rattle.measure.specs.Algebra.{Algebra, Laws}
use Rattle.measure.specs.Piles.{reversed_algebra}

abbrev turn : {V : Type 0} → V → Reversed V
turn v = record { value = v }

pub reversed_laws : {V : Type 0} {m : Algebra V} → Laws m → Laws (reversed_algebra m)
reversed_laws {V} l = record {
  bounded = λ a. l.bounded a.value;
  same = λ a b e. ap turn (sym (l.same b.value a.value e));
  same_self = λ a. l.same_self a.value;
  converse = λ a b. l.converse b.value a.value;
  transitive = λ a b c p q. l.transitive c.value b.value a.value q p;
  associative = λ a b c h. ap turn (l.associative a.value b.value c.value h);
  null_magnitude = l.null_magnitude;
  null_left = λ a. ap turn (l.null_left a.value);
  null_right = λ a. ap turn (l.null_right a.value);
  right_monotone = λ a b c p f g. l.right_monotone b.value a.value c.value p g f;
  left_monotone = λ a b c p f g. l.left_monotone b.value a.value c.value p g f;
  subadditive = λ a b f. l.subadditive a.value b.value f;
}
