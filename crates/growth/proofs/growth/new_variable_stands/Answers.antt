use Rattle.growth.proofs.Declaring.{new_variable_stands}
use Rattle.growth.proofs.growth.new_variable_stands.Goals as goal

pub returns : goal.returns
returns c = new_variable_stands
