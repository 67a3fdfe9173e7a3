-- What waits has room, and there is room for no more than a `usize` counts.
use Rattle.std.proofs.Common.{◌^◌, ◌<◌, ◌≤◌, length, arith}
use Rattle.queue.specs.declared.Queue.{Queue}
use Rattle.queue.specs.Waiting.{waiting, capacity}
use Rattle.queue.proofs.Rotations.{length_front}

module _ {X : Type 0} (q : Queue X) where
  pub waiting_fits : length (waiting q) ≤ capacity q
  unfolding waiting capacity
  waiting_fits =
      let n = length_front q.slots.now q.head q.len q.inside q.fits in
      let f = q.fits in
      omega arith

  pub capacity_small : capacity q < 2 ^ 64
  unfolding capacity
  capacity_small = q.small
