use Rattle.growth.proofs.Naming.{names_broken}
use Rattle.growth.proofs.joins.names_broken.Goals as goal

pub returns : goal.returns
returns c = names_broken
