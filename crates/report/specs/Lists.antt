-- Lengths and nodes in a line, each behind a space.
use Rattle.std.specs.Prelude.{ℕ, List, [], ◌∷◌, ◌++◌, codes, decimal}
use Rattle.std.specs.List.{flat_map}
use Rattle.columns.specs.Columnar.{Columnar}
use Rattle.columns.specs.Text.{row_text}

abbrev pub nodes_listed : List ℕ → List ℕ
nodes_listed = flat_map (λ (n : ℕ). codes " " ++ decimal n)

module _ {V : Type 0} (table : Columnar V) where
  -- a length as its columns, as `2/7`
  abbrev pub length_text : V → List ℕ
  length_text x = row_text (table.tell x)

  abbrev pub lengths_listed : List V → List ℕ
  lengths_listed = flat_map (λ (x : V). codes " " ++ length_text x)

  -- the lengths of a row, or that it has none
  abbrev pub row_listed : List V → List ℕ
  row_listed [] = codes " none"
  row_listed (x ∷ xs) = lengths_listed (x ∷ xs)
