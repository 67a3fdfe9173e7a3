use Rattle.std.proofs.Common.{◌≡◌, ℕ, ◌+◌, ◌-◌, ◌<◌, [], ◌∷◌, get_or, take, refl, ap, ◌∙◌, arith}
use Rattle.queue.specs.Waiting.{rotated, waiting, capacity}
use Rattle.queue.proofs.Rotations.{front_more, rotated_whole}
use Rattle.queue.proofs.Queue.pop.Goals as goal
use Rattle.queue.proofs.Queue.pop.Goals.{then-self, else-self}

pub returns-then-self-eq0 : goal.returns-then-self-eq0
unfolding waiting capacity
returns-then-self-eq0 g c =
    let q = c.args.self.now in
    let none : take q.len (rotated q.head q.slots.now) ≡ [] = rw c.if-self-eq0.true in
    record { first = (none, none); room = refl }

-- the slot of the first entry is `head`, or 0 where `head` stands at the end
pub returns : goal.returns
unfolding waiting capacity
returns g c =
    let q = c.args.self.now in
    let s = q.slots.now in
    let d = c.index-self-first.result in
    let i = q.inside in
    let f = q.fits in
    let some : 0 < q.len = omega arith in
    let Steps : ℕ → Type 0 = λ k. take q.len (rotated q.head s) ≡ get_or s k d ∷ take (q.len - 1) (rotated (k + 1) s) in
    let steps : Steps c.if-self.first =
    elim c.if-self.branch [
      | then-self w ↦ rw w.first-is (front_more s q.head q.len d w.if-self.true some f)
      | else-self w ↦ rw w.first-is (ap (take q.len) (rotated_whole s q.head w.if-self.false) ∙ front_more s 0 q.len d (omega arith) some f)
    ]
    in
    record { first = steps; room = refl }
