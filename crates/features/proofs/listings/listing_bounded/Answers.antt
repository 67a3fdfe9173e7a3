use Rattle.features.proofs.Bytes.{listing_bounded}
use Rattle.features.proofs.listings.listing_bounded.Goals as goal

pub returns : goal.returns
returns c = listing_bounded
