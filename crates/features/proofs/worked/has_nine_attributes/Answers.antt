use Rattle.features.proofs.WorkedGraph.{has_nine_attributes}
use Rattle.features.proofs.worked.has_nine_attributes.Goals as goal

pub returns : goal.returns
returns c = has_nine_attributes
