use Rattle.std.proofs.Common.{map, vec_items}
use Rattle.routes.specs.Reading.{Writes}
use Rattle.routes.proofs.reading.numbers.Given as goal

abbrev pub invariant-loop-part : goal.invariant-loop-part
invariant-loop-part l = Writes (map (λ p. p.now) l.yielded) (vec_items l.numbers)
