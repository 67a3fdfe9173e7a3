use Rattle.features.proofs.WorkedGraph.{in_order}
use Rattle.features.proofs.worked.in_order.Goals as goal

pub returns : goal.returns
returns c = in_order
