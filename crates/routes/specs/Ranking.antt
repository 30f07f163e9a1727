-- Routes from the first to the last.
use Rattle.std.specs.Prelude.{◌≡◌, ℕ, ◌+◌, ◌<◌, ◌≤◌, ◌⊎◌, List, length, slice_index_or}
use Rattle.std.specs.declared.cmp.Ordering.{Ordering}
use Rattle.std.specs.Ordering.{nat_cmp, on, then_cmp}
use Rattle.measure.specs.Algebra.{Algebra, Before}
use Rattle.routes.specs.declared.ranking.Route.{Route}

module _ {V : Type 0} (m : Algebra V) where
  -- by length, then by number
  abbrev pub route_compare : Route V → Route V → Ordering
  route_compare = then_cmp (on (λ r. r.length) m.compare) (on (λ r. r.number) nat_cmp)

  -- a may stand in front of b
  abbrev pub NotAfter : Route V → Route V → Type 0
  NotAfter a b = Before m a.length b.length ⊎ ((a.length ≡ b.length) × (a.number ≤ b.number))

  -- each route may stand in front of the next
  abbrev pub InOrder : List (Route V) → Type 0
  InOrder rs = (k : ℕ) (d : Route V) → k + 1 < length rs → NotAfter (slice_index_or rs k d) (slice_index_or rs (k + 1) d)
