use Rattle.features.proofs.BySet.{closing_by_set}
use Rattle.features.proofs.theorems.closing_depends_on_the_set.Goals as goal

pub returns : goal.returns
returns c = closing_by_set
