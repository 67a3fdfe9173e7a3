use Rattle.growth.proofs.Quotients.{join_stands}
use Rattle.growth.proofs.joins.join_stands.Goals as goal

pub returns : goal.returns
returns c = join_stands
