use Rattle.growth.proofs.Holding.{accepted_holds}
use Rattle.growth.proofs.growth.accepted_holds.Goals as goal

pub returns : goal.returns
returns c = accepted_holds
