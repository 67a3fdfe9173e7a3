use Rattle.features.proofs.Unique.{same_bytes}
use Rattle.features.proofs.theorems.same_graph_same_bytes.Goals as goal

pub returns : goal.returns
returns c = same_bytes
