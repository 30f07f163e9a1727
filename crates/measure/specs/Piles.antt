-- Measures made from measures.
use Rattle.std.specs.Prelude.{max}
use Rattle.std.specs.declared.cmp.Ordering.TheVariants.{Less, Equal, Greater}
use Rattle.std.specs.declared.cmp.Ordering.{Ordering}
use Rattle.measure.specs.declared.reversed.Reversed.{Reversed}
use Rattle.measure.specs.declared.then.Then.{Then}
use Rattle.measure.specs.Algebra.{Algebra}

-- before and after exchanged
abbrev pub reversed_algebra : {V : Type 0} → Algebra V → Algebra (Reversed V)
reversed_algebra m = record {
  null = record { value = m.null };
  magnitude = λ a. m.magnitude a.value;
  plus = λ a b. record { value = m.plus a.value b.value };
  compare = λ a b. m.compare b.value a.value;
}

-- the first answer, or the second where the first parts are the same
abbrev pub chained : Ordering → Ordering → Ordering
chained Less p = Less
chained Equal p = p
chained Greater p = Greater

-- joined part by part, compared by the first parts and then by the second; magnitude the larger
abbrev pub then_algebra : {V W : Type 0} → Algebra V → Algebra W → Algebra (Then V W)
then_algebra m n = record {
  null = record { first = m.null; second = n.null };
  magnitude = λ a. max (m.magnitude a.first) (n.magnitude a.second);
  plus = λ a b. record { first = m.plus a.first b.first; second = n.plus a.second b.second };
  compare = λ a b. chained (m.compare a.first b.first) (n.compare a.second b.second);
}
