-- The kinds of lengths: their widths, their numbers in network files and their names in lists.
use Rattle.std.specs.Prelude.{◌≡◌, ◌≢◌, ℕ, List, Some, None, Option, Ok, Err, Result, cond, ◌==◌, codes}
use Rattle.columns.specs.declared.kind.Kind.{Kind}
use Rattle.columns.specs.declared.kind.Kind.TheVariants.{Sum, ReversedSum, SumThenSum, SumThenReversed}
use Rattle.columns.specs.declared.kind.UnknownKind.{UnknownKind}

-- how many columns its lengths have
abbrev pub width : Kind → ℕ
width Sum = 1
width ReversedSum = 1
width SumThenSum = 2
width SumThenReversed = 2

-- the kind of this number
abbrev pub kind_of : ℕ → Option Kind
kind_of n = cond (n == 1) (Some Sum) (cond (n == 2) (Some ReversedSum) (cond (n == 3) (Some SumThenSum) (cond (n == 4) (Some SumThenReversed) None)))

-- the kind of this number, or the error if no kind has it
abbrev pub Numbered : ℕ → Result Kind UnknownKind → Type 0
Numbered n (Ok k) = kind_of n ≡ Some k
Numbered n (Err _) = kind_of n ≡ None

abbrev pub name : Kind → List ℕ
name Sum = codes "sum"
name ReversedSum = codes "reversed"
name SumThenSum = codes "money then minutes"
name SumThenReversed = codes "money then reversed"

-- the kind of this name, or the error if no kind has it
abbrev pub Named : List ℕ → Result Kind UnknownKind → Type 0
Named text (Ok k) = text ≡ name k
Named text (Err _) = (k : Kind) → text ≢ name k
