use Rattle.features.proofs.Trails.{one_trail}
use Rattle.features.proofs.theorems.every_node_has_one_trail.Goals as goal

pub returns : goal.returns
returns c = one_trail
