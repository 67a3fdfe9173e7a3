use Rattle.growth.proofs.Redundant.{following_added}
use Rattle.growth.proofs.growth.apart_changes_nothing.Goals as goal

pub returns : goal.returns
returns c = λ m g state vars said p q stands. following_added m vars g state said _ tt stands
