use Rattle.features.proofs.General.{model_exactly_without_clash}
use Rattle.features.proofs.theorems.model_exactly_without_clash.Goals as goal

pub returns : goal.returns
returns c = model_exactly_without_clash
