use Rattle.features.proofs.Held.{trail_is_first}
use Rattle.features.proofs.theorems.trail_is_first_term.Goals as goal

pub returns : goal.returns
returns c = trail_is_first
