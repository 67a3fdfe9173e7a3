use Rattle.growth.proofs.Naming.{names_no_value}
use Rattle.growth.proofs.joins.names_no_value.Goals as goal

pub returns : goal.returns
returns c = names_no_value
