use Rattle.growth.proofs.Branching.{new_node_stands}
use Rattle.growth.proofs.growth.new_node_stands.Goals as goal

pub returns : goal.returns
returns c = new_node_stands
