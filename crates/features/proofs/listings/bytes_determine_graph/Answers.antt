use Rattle.features.proofs.Bytes.{bytes_determine_graph}
use Rattle.features.proofs.listings.bytes_determine_graph.Goals as goal

pub returns : goal.returns
returns c = bytes_determine_graph
