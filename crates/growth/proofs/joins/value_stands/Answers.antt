use Rattle.growth.proofs.Values.{value_stands}
use Rattle.growth.proofs.joins.value_stands.Goals as goal

pub returns : goal.returns
returns c = value_stands
