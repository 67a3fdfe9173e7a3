use Rattle.features.proofs.General.{joined_if_in_every_model}
use Rattle.features.proofs.theorems.joined_if_in_every_model.Goals as goal

pub returns : goal.returns
returns c = joined_if_in_every_model
