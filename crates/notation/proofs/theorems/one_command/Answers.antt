use Rattle.notation.proofs.Running.{one_command}
use Rattle.notation.proofs.theorems.one_command.Goals as goal

pub returns : goal.returns
returns c = one_command
