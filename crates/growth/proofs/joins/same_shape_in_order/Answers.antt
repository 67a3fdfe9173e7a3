use Rattle.growth.proofs.Alike.{same_shape_in_order}
use Rattle.growth.proofs.joins.same_shape_in_order.Goals as goal

pub returns : goal.returns
returns c = same_shape_in_order
