use Rattle.growth.proofs.Holding.{same_shape_stands}
use Rattle.growth.proofs.growth.same_shape_stands_alike.Goals as goal

pub returns : goal.returns
returns c = same_shape_stands
