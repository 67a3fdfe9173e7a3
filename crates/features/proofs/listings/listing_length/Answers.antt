use Rattle.features.proofs.Bytes.{listing_length}
use Rattle.features.proofs.listings.listing_length.Goals as goal

pub returns : goal.returns
returns c = listing_length
