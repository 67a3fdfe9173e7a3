use Rattle.growth.proofs.Renumbering.{renumbered_stands}
use Rattle.growth.proofs.joins.renumbered_stands.Goals as goal

pub returns : goal.returns
returns c = renumbered_stands
