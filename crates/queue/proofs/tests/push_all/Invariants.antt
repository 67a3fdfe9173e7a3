use Rattle.std.proofs.Common.{◌≡◌, ◌++◌, take}
use Rattle.queue.specs.Waiting.{waiting, capacity}
use Rattle.queue.proofs.tests.push_all.Given as goal

abbrev pub invariant-loop-x : goal.invariant-loop-x
invariant-loop-x g l =
    (waiting l.q ≡ waiting l.initial.q ++ take l.x-index l.xs) × (capacity l.q ≡ capacity l.initial.q)
