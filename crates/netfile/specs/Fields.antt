-- The fields of a record's body: its highest byte first, a byte past the end being 0.
use Rattle.std.specs.Prelude.{ℕ, ◌+◌, ◌*◌, List, [], ◌∷◌, ℤ, slice_index}
use Rattle.std.specs.Int.{w32}
use Rattle.std.proofs.Common.{to_z}
use Rattle.columns.specs.declared.kind.Kind.{Kind}
use Rattle.columns.specs.declared.kind.Kind.TheVariants.{Sum, ReversedSum, SumThenSum, SumThenReversed}

-- two bytes as a whole number
abbrev pub pair : List ℕ → ℕ → ℕ
pair b at = slice_index b at * 256 + slice_index b (at + 1)

-- four bytes in two's complement
abbrev pub word : List ℕ → ℕ → ℤ
word b at = to_z w32 (slice_index b at * 16777216 + slice_index b (at + 1) * 65536 + slice_index b (at + 2) * 256 + slice_index b (at + 3))

-- the columns of an arc's length, behind its two ends
abbrev pub columns_of : Kind → List ℕ → List ℤ
columns_of Sum b = word b 4 ∷ []
columns_of ReversedSum b = word b 4 ∷ []
columns_of SumThenSum b = word b 4 ∷ word b 8 ∷ []
columns_of SumThenReversed b = word b 4 ∷ word b 8 ∷ []
