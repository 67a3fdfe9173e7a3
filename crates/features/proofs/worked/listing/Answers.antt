use Rattle.features.proofs.WorkedGraph.{listing}
use Rattle.features.proofs.worked.listing.Goals as goal

pub returns : goal.returns
returns c = listing
