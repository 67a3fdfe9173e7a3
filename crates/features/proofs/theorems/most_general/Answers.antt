use Rattle.features.proofs.General.{most_general}
use Rattle.features.proofs.theorems.most_general.Goals as goal

pub returns : goal.returns
returns c = most_general
