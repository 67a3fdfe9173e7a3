use Rattle.growth.proofs.Stating.{equation_stands}
use Rattle.growth.proofs.growth.equation_stands.Goals as goal

pub returns : goal.returns
returns c = equation_stands
