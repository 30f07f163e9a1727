use Rattle.walks.proofs.next_path_is_found_by_labels.Goals as goal
use Rattle.walks.proofs.Labels.{next_paths}

pub returns : goal.returns
returns g c = next_paths g.met.M.Measure.lawful
