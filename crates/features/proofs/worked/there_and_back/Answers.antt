use Rattle.features.proofs.WorkedGraph.{there_and_back}
use Rattle.features.proofs.worked.there_and_back.Goals as goal

pub returns : goal.returns
returns c = there_and_back
