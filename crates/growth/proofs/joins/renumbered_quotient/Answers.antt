use Rattle.growth.proofs.Renumbering.{renumbered_quotient}
use Rattle.growth.proofs.joins.renumbered_quotient.Goals as goal

pub returns : goal.returns
returns c = renumbered_quotient
