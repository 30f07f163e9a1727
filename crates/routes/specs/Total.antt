-- The length of a route.
use Rattle.std.specs.Prelude.{List, Some, Option, option_and_then, fold}
use Rattle.measure.specs.Algebra.{Algebra, joined}

module _ {V : Type 0} (m : Algebra V) where
  -- one leg further; what is absent stays absent
  abbrev pub further : Option V → V → Option V
  further o b = option_and_then (λ a. joined m a b) o

  -- null joined with the legs from the first to the last
  abbrev pub total : List V → Option V
  total legs = fold further (Some m.null) legs
