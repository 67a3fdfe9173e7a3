use Rattle.features.proofs.Unique.{one_graph}
use Rattle.features.proofs.theorems.one_graph_in_listing_order.Goals as goal

pub returns : goal.returns
returns c = one_graph
