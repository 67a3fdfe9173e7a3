use Rattle.std.proofs.Common.{sym}
use Rattle.queue.specs.Waiting.{waiting}
use Rattle.queue.proofs.Rotations.{length_front}
use Rattle.queue.proofs.Queue.len.Goals as goal

pub returns : goal.returns
unfolding waiting
returns g c =
    let q = c.args.self.now in
    sym (length_front q.slots.now q.head q.len q.inside q.fits)
