use Rattle.features.proofs.Sound.{joined_in_model}
use Rattle.features.proofs.theorems.joined_in_every_model.Goals as goal

pub returns : goal.returns
returns c = λ m vars said g model p q j. joined_in_model m vars said g model j
