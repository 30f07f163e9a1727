-- The numbers that a text writes.
use Rattle.std.specs.Prelude.{◌≡◌, ℕ, List, map, ℤ, FitsSigned, ◌==◌}
use Rattle.std.specs.Int.{w64}
use Rattle.std.specs.List.{All, slice_split}
use Rattle.std.specs.Str.Parse.{IsNumeral, without_leading_sign, signed_digits_value}

-- a decimal numeral, with or without a sign, of a number of 64 bits
abbrev pub Number : List ℕ → Type 0
Number p = IsNumeral 10 (without_leading_sign p) × FitsSigned w64 (signed_digits_value 10 p)

-- each part is a number, and these are they
abbrev pub Writes : List (List ℕ) → List ℤ → Type 0
Writes ps cs = All Number ps × (cs ≡ map (signed_digits_value 10) ps)

-- the parts of the text between its strokes write these numbers
abbrev pub Reads : List ℕ → List ℤ → Type 0
Reads text cs = Writes (slice_split (λ b. b == 47) text) cs
