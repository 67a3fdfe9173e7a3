use Rattle.std.proofs.Common.{◌≡◌, ℕ, ◌+◌, ◌<◌, [], ◌∷◌, ◌++◌, length, take, set, refl, arith, length-set}
use borrow.Author.Tests.{lt-true, le-false}
use Rattle.queue.specs.Waiting.{rotated, waiting, capacity}
use Rattle.queue.proofs.Rotations.{length_front, front_before, front_round}
use Rattle.queue.proofs.Queue.push.Goals as goal
use Rattle.queue.proofs.Queue.push.Goals.{then-self-room, else-self-room}

pub returns-then-self : goal.returns-then-self
unfolding waiting capacity
returns-then-self g c =
    let q = c.args.self.now in
    let s = q.slots.now in
    let n = length_front s q.head q.len q.inside q.fits in
    record { taken = le-false _ _ (omega arith); after = refl; room = refl }

-- the free slot is `len` places on from `head`, round the end where there are fewer
pub returns : goal.returns
unfolding waiting capacity
returns g c =
    let q = c.args.self.now in
    let s = q.slots.now in
    let x = c.args.x in
    let i = q.inside in
    let f = q.fits in
    let n = length_front s q.head q.len i f in
    let room : q.len < length s = omega arith in
    let Stores : ℕ → Type 0 = λ k. take (q.len + 1) (rotated q.head (set s k x)) ≡ take q.len (rotated q.head s) ++ (x ∷ []) in
    let stores : Stores c.if-self-room.free =
    elim c.if-self-room.branch [
      | then-self-room w ↦ rw w.free-is (front_before s q.head q.len x i w.if-self-room.true)
      | else-self-room w ↦ rw w.free-is (front_round s q.head q.len x i w.if-self-room.false room)
    ]
    in
    record { taken = lt-true _ _ (omega arith); after = stores; room = length-set s c.if-self-room.free x }
