-- The number that each refusal is known by.
use Rattle.std.specs.Prelude.{ℕ}
use Rattle.sweeps.specs.declared.refusal.Refusal.{Refusal}
use Rattle.sweeps.specs.declared.refusal.Refusal.TheVariants.{NodeCount, ArcEnd, SelfArc, ArcOrder, TooLong, TablesFull, NoSuchArc, RowWidth, NoSuchNode, ShortTables, NegativeCircuit, NoSuchPlace, NullCircuit, ShortTraceTables}

abbrev pub number : Refusal → ℕ
number NodeCount = 1
number ArcEnd = 2
number SelfArc = 3
number ArcOrder = 4
number TooLong = 5
number TablesFull = 6
number NoSuchArc = 7
number RowWidth = 8
number NoSuchNode = 9
number ShortTables = 10
number NegativeCircuit = 11
number NoSuchPlace = 12
number NullCircuit = 13
number ShortTraceTables = 14
