use Rattle.growth.proofs.Holding.{declared_holds}
use Rattle.growth.proofs.growth.declared_holds.Goals as goal

pub returns : goal.returns
returns c = declared_holds
