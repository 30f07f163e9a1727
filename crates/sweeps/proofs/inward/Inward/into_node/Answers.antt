use Rattle.sweeps.specs.Inwards.{net_of}
use Rattle.sweeps.proofs.Noding.{block_ordered}
use Rattle.sweeps.proofs.inward.Inward.into_node.Goals as goal

pub slice_bounds-result-count : goal.slice_bounds-result-count
slice_bounds-result-count g c = block_ordered (net_of g.M.Measure.algebra c.args.self.now) c.args.self.now.first.now c.args.self.now.known.indexed c.args.j c.requires.low c.requires.high

pub slice_bounds-result-start : goal.slice_bounds-result-start
slice_bounds-result-start g c = block_ordered (net_of g.M.Measure.algebra c.args.self.now) c.args.self.now.first.now c.args.self.now.known.indexed c.args.j c.requires.low c.requires.high

pub slice_bounds-result-count-2 : goal.slice_bounds-result-count-2
slice_bounds-result-count-2 g c = block_ordered (net_of g.M.Measure.algebra c.args.self.now) c.args.self.now.first.now c.args.self.now.known.indexed c.args.j c.requires.low c.requires.high

pub slice_bounds-result-start-2 : goal.slice_bounds-result-start-2
slice_bounds-result-start-2 g c = block_ordered (net_of g.M.Measure.algebra c.args.self.now) c.args.self.now.first.now c.args.self.now.known.indexed c.args.j c.requires.low c.requires.high
