use Rattle.features.proofs.Clashing.{no_clash}
use Rattle.features.proofs.theorems.clash_has_no_model.Goals as goal

pub returns : goal.returns
returns c = λ m lawful vars said clash g model. no_clash m lawful vars said g model clash
