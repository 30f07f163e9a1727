-- The network that is indexed.
use Rattle.measure.specs.Algebra.{Algebra}
use Rattle.walks.specs.Networks.{Network}
use Rattle.sweeps.specs.declared.inward.Inward.{Inward}
use Rattle.sweeps.specs.Tables.{network}

abbrev pub net_of : {V : Type 0} {B : _} (m : Algebra V) → Inward V B → Network V
net_of m i = network m i.nodes i.arcs.now i.lengths.now
