use Rattle.growth.proofs.Naming.{trails_are_first}
use Rattle.growth.proofs.joins.trails_are_first.Goals as goal

pub returns : goal.returns
returns c = trails_are_first
