use Rattle.graphs.proofs.Refusing.{listings_are_read}
use Rattle.graphs.proofs.theorems.listings_are_read.Goals as goal

pub returns : goal.returns
returns c = listings_are_read
