use Rattle.answers.proofs.Counting.{equally_many_nodes}
use Rattle.answers.proofs.theorems.equally_many_nodes.Goals as goal

pub returns : goal.returns
returns c = equally_many_nodes
