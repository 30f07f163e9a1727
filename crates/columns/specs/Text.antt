-- A row of numbers as text.
use Rattle.std.specs.Prelude.{ℕ, List, [], ◌∷◌, ◌++◌, ℤ}
use Rattle.std.specs.Fmt.{signed_decimal}

-- the numbers in decimal with a stroke between, as `2/7`
abbrev pub row_text : List ℤ → List ℕ
row_text [] = []
row_text (c ∷ []) = signed_decimal c
row_text (c ∷ d ∷ cs) = signed_decimal c ++ 47 ∷ row_text (d ∷ cs)
