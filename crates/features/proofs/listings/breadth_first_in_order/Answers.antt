use Rattle.features.proofs.Numbering.{breadth_first_in_order}
use Rattle.features.proofs.listings.breadth_first_in_order.Goals as goal

pub returns : goal.returns
returns c = breadth_first_in_order
