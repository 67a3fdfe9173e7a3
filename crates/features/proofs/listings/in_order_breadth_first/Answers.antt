use Rattle.features.proofs.Numbering.{in_order_breadth_first}
use Rattle.features.proofs.listings.in_order_breadth_first.Goals as goal

pub returns : goal.returns
returns c = in_order_breadth_first
