use Rattle.growth.proofs.Renumbering.{renumbered_denotes}
use Rattle.growth.proofs.joins.renumbered_denotes.Goals as goal

pub returns : goal.returns
returns c = renumbered_denotes
