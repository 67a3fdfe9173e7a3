use Rattle.answers.proofs.Declaring.{no_clash_declared}
use Rattle.answers.proofs.theorems.declaring_never_clashes.Goals as goal

pub returns : goal.returns
returns c = no_clash_declared
