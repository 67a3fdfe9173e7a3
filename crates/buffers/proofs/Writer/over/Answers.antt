use Rattle.std.proofs.Common.{refl}
use Rattle.buffers.specs.Writing.{so_far, left}
use Rattle.buffers.proofs.Writer.over.Goals as goal

pub returns : goal.returns
unfolding so_far left
returns c = record { nothing = refl; all_left = refl; room = refl; same_buffer = refl }
