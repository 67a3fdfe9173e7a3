use Rattle.growth.proofs.Renumbering.{numbered_join_stands}
use Rattle.growth.proofs.joins.numbered_join_stands.Goals as goal

pub returns : goal.returns
returns c = numbered_join_stands
