-- Networks as calls build them: the arcs in the order of their numbers, with their lengths.
use Rattle.std.specs.Prelude.{ℕ, ◌-◌, Bool, true, List, [], ◌∷◌, ◌++◌, length, slice_set}
use Rattle.measure.specs.Algebra.{Algebra}
use Rattle.walks.specs.Networks.{Network}
use Rattle.sweeps.specs.declared.Arc.{Arc}
use Rattle.sweeps.specs.Tables.{network, arc_at}

pub record Net (V : Type 0) : Type 0 where
  pub nodes : ℕ
  pub arcs : List Arc
  pub lengths : List V

abbrev pub new_arc : ℕ → ℕ → Arc
new_arc start end = record { start = start; end = end; «open» = true }

abbrev pub marked : Bool → Arc → Arc
marked b a = record { start = a.start; end = a.end; «open» = b }

-- the end of the last arc, or 0 without arcs
abbrev pub last_end : List Arc → ℕ
last_end arcs = (arc_at arcs (length arcs)).end

module _ {V : Type 0} where
  abbrev pub bare : ℕ → Net V
  bare n = record { nodes = n; arcs = []; lengths = [] }

  -- one arc more, open
  abbrev pub add_arc : Net V → ℕ → ℕ → V → Net V
  add_arc net start end x = record { nodes = net.nodes; arcs = net.arcs ++ new_arc start end ∷ []; lengths = net.lengths ++ x ∷ [] }

  -- arc a opened or closed
  abbrev pub mark_arc : Net V → ℕ → Bool → Net V
  mark_arc net a b = record { nodes = net.nodes; arcs = slice_set net.arcs (a - 1) (marked b (arc_at net.arcs a)); lengths = net.lengths }

  -- arc a with another length
  abbrev pub relength_arc : Net V → ℕ → V → Net V
  relength_arc net a x = record { nodes = net.nodes; arcs = net.arcs; lengths = slice_set net.lengths (a - 1) x }

  -- as a network of nodes and arcs by number
  abbrev pub listed : Algebra V → Net V → Network V
  listed m net = network m net.nodes net.arcs net.lengths
