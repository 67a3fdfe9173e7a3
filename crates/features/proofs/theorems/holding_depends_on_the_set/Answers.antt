use Rattle.features.proofs.BySet.{holds_by_set}
use Rattle.features.proofs.theorems.holding_depends_on_the_set.Goals as goal

pub returns : goal.returns
returns c = holds_by_set
