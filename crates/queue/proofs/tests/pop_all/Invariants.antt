use Rattle.std.proofs.Common.{◌≡◌, ◌+◌, ◌++◌, length, take, drop}
use Rattle.queue.specs.Waiting.{waiting}
use Rattle.queue.proofs.tests.pop_all.Given as goal

-- what went out and what waits make up what waited
abbrev pub invariant-loop-x : goal.invariant-loop-x
invariant-loop-x g l =
    (waiting l.initial.q ≡ take l.n l.out ++ waiting l.q)
    × (l.n + length (waiting l.q) ≡ length (waiting l.initial.q))
    × (drop l.n l.out ≡ drop l.n l.initial.out)

abbrev pub decreases-loop-x : goal.decreases-loop-x
decreases-loop-x g l = length (waiting l.q)
