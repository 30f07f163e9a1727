-- What a settled solve leaves is what a trace asks for.
use Rattle.std.proofs.Common.{◌≡◌, ℕ, refl, arith}
use Rattle.measure.specs.Algebra.{Algebra, Laws}
use Rattle.walks.specs.Circuits.{NegativeCircuit}
use Rattle.walks.specs.Method.{rows}
use Rattle.walks.specs.Theorems.{Within}
use Rattle.walks.proofs.Solving.{exactness, refusals}
use Rattle.tracing.specs.Tables.{Tables}
use Rattle.tracing.specs.Nexts.{net_of, Settled}
use Rattle.tracing.specs.Standing.{SettledSolve, SolvesTraced}

module _ {V : Type 0} {m : Algebra V} (laws : Laws m) (T : Tables V) (p : ℕ) (h : SettledSolve m T p) where
  within : Within m (net_of m T) T.k T.source
  within = record {
    formed = λ a o. h.ordered.proper a o.low o.high;
    nodes_high = h.nodes_high;
    k_low = h.k_low;
    k_high = h.k_high;
    s_low = h.source_low;
    s_high = h.source_high;
  }

  no_negative : ¬ NegativeCircuit m (net_of m T) T.source
  no_negative b =
      let e = (refusals laws (net_of m T) T.k T.source within).1 b in
      let f = h.ended in
      let z : ◌≡◌ {A = ℕ} 0 1 = cc in
      omega arith

  pub settled_tables : Settled m T (rows m (net_of m T) T.k T.source p)
  settled_tables = record {
    nodes_high = h.nodes_high;
    k_low = h.k_low;
    k_high = h.k_high;
    source_low = h.source_low;
    source_high = h.source_high;
    beside = h.beside;
    ordered = h.ordered;
    held = h.held;
    exact = λ j low high. exactness laws (net_of m T) T.k T.source within p h.ended j;
    no_negative = no_negative;
    no_null = h.no_null;
  }

pub solves_traced : {V : Type 0} {m : Algebra V} → Laws m → SolvesTraced m
solves_traced laws T p h j work low high room = record { tracing = record { settled = settled_tables laws T p h; low = low; high = high; room = room; at = tt }; handed_out = tt; last = refl }
