use Rattle.growth.proofs.Naming.{names_leaf_branches}
use Rattle.growth.proofs.joins.names_leaf_branches.Goals as goal

pub returns : goal.returns
returns c = names_leaf_branches
