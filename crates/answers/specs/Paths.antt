-- The nodes of a path.
use Rattle.std.specs.Prelude.{ℕ, List, map}
use Rattle.sweeps.specs.declared.Arc.{Arc}
use Rattle.sweeps.specs.Tables.{arc_at}

-- the node that the arc of this number leads to
abbrev pub end_of : List Arc → ℕ → ℕ
end_of arcs a = (arc_at arcs a).end

abbrev pub ends_of : List Arc → List ℕ → List ℕ
ends_of arcs path = map (end_of arcs) path
