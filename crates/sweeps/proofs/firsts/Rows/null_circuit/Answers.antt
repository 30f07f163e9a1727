use Rattle.std.proofs.Common.{refl, arith}
use Rattle.sweeps.specs.Inwards.{net_of}
use Rattle.sweeps.proofs.Ranking.{climbs_none, verdict_of}
use Rattle.sweeps.proofs.firsts.Rows.null_circuit.Goals as goal

pub loop-ranked-init : goal.loop-ranked-init
loop-ranked-init g c = climbs_none _ _ _ _ _ _ refl

pub returns : goal.returns
returns g c = record {
  ranks = c.scan-total.new.ranks;
  ranked = c.scan-total.result;
  climbs = c.scan-total.ensures.climbs;
  stuck = c.scan-total.ensures.still c.if-total-ranked.true;
  verdict = verdict_of g.M.Measure.algebra (net_of g.M.Measure.algebra c.args.self.now.net.now) c.args.self.now.k c.args.self.now.values.now c.args.self.now.counts.now _ (omega (arith, c.args.self.now.net.now.few)) _ c.contains.ensures.cases;
}
