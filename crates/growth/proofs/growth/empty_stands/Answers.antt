use Rattle.growth.proofs.Declaring.{empty_stands}
use Rattle.growth.proofs.growth.empty_stands.Goals as goal

pub returns : goal.returns
returns c = λ m g state nodes vars. empty_stands m g state nodes vars
