use Rattle.features.proofs.WorkedGraph.{holds_what_was_said}
use Rattle.features.proofs.worked.holds_what_was_said.Goals as goal

pub returns : goal.returns
returns c = holds_what_was_said
