use Rattle.growth.proofs.Stating.{value_of_term_stands}
use Rattle.growth.proofs.growth.value_of_term_stands.Goals as goal

pub returns : goal.returns
returns c = value_of_term_stands
