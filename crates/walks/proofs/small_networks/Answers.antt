use Rattle.walks.proofs.small_networks.Goals as goal
use Rattle.walks.proofs.Cases.{cases_hold}

pub returns : goal.returns
returns c = cases_hold
