use Rattle.features.proofs.TotalOrder.{strict_total}
use Rattle.features.proofs.theorems.listing_order_is_total.Goals as goal

pub returns : goal.returns
returns c = strict_total
