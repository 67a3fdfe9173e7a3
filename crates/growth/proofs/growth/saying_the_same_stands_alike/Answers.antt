use Rattle.growth.proofs.Redundant.{stands_same}
use Rattle.growth.proofs.growth.saying_the_same_stands_alike.Goals as goal

pub returns : goal.returns
returns c = stands_same
