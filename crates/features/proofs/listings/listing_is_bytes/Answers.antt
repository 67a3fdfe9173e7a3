use Rattle.features.proofs.Bytes.{listing_is_bytes}
use Rattle.features.proofs.listings.listing_is_bytes.Goals as goal

pub returns : goal.returns
returns c = listing_is_bytes
