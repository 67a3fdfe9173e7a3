use Rattle.growth.proofs.Holding.{holding_stands}
use Rattle.growth.proofs.growth.holding_stands.Goals as goal

pub returns : goal.returns
returns c = holding_stands
