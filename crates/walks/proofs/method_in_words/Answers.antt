use Rattle.walks.proofs.method_in_words.Goals as goal
use Rattle.walks.proofs.Ends.{method_in_words}

pub returns : goal.returns
returns g c = method_in_words g.met.M.Measure.lawful
