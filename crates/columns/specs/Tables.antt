-- The columns of the three measures.
use Rattle.std.specs.Prelude.{◌+◌, ◌^◌, cond, List, [], ◌∷◌, ◌++◌, take, drop, ℤ, Some, None, Option, nat_le, unsigned_abs}
use Rattle.measure.specs.declared.sum.Sum.{Sum}
use Rattle.measure.specs.declared.reversed.Reversed.{Reversed}
use Rattle.measure.specs.declared.then.Then.{Then}
use Rattle.measure.specs.Sums.{clamped}
use Rattle.columns.specs.Columnar.{Columnar}

abbrev pub one_number : List ℤ → Option Sum
one_number [] = None
one_number (c ∷ []) = cond (nat_le (unsigned_abs c) (2 ^ 62)) (Some (clamped c)) None
one_number (c ∷ d ∷ cs) = None

-- the number itself
abbrev pub sum_columns : Columnar Sum
sum_columns = record { width = 1; tell = λ a. a.value ∷ []; build = one_number }

abbrev pub turned : {V : Type 0} → Option V → Option (Reversed V)
turned None = None
turned (Some a) = Some (record { value = a })

-- those of the measure below
abbrev pub reversed_columns : {V : Type 0} → Columnar V → Columnar (Reversed V)
reversed_columns m = record { width = m.width; tell = λ a. m.tell a.value; build = λ cs. turned (m.build cs) }

abbrev pub both : {V W : Type 0} → Option V → Option W → Option (Then V W)
both None b = None
both (Some a) None = None
both (Some a) (Some b) = Some (record { first = a; second = b })

-- those of the first part, and after them those of the second
abbrev pub then_columns : {V W : Type 0} → Columnar V → Columnar W → Columnar (Then V W)
then_columns m n = record {
  width = m.width + n.width;
  tell = λ a. m.tell a.first ++ n.tell a.second;
  build = λ cs. both (m.build (take m.width cs)) (n.build (drop m.width cs));
}
