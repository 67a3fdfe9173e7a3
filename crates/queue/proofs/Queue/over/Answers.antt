use Rattle.std.proofs.Common.{refl}
use Rattle.queue.specs.Waiting.{waiting, capacity}
use Rattle.queue.proofs.Queue.over.Goals as goal

pub returns : goal.returns
unfolding waiting capacity
returns g c = record { empty = refl; room = refl }
