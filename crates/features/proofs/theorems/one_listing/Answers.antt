use Rattle.features.proofs.Unique.{one_listing}
use Rattle.features.proofs.theorems.one_listing.Goals as goal

pub returns : goal.returns
returns c = one_listing
