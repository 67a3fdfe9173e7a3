use Rattle.growth.proofs.Holding.{standing_holds}
use Rattle.growth.proofs.growth.standing_holds.Goals as goal

pub returns : goal.returns
returns c = standing_holds
