use Rattle.std.proofs.Common.{◌+◌, ◌≤◌, sum_by}
use Rattle.queue.specs.Waiting.{waiting}
use Rattle.std.specs.List.{AllByRecursion}
use Rattle.queue.proofs.tests.last_half.Given as goal

abbrev pub invariant-loop-x : goal.invariant-loop-x
invariant-loop-x l = (l.last ≤ l.start) × AllByRecursion (λ x. x ≤ l.start) (waiting l.q)

-- a number gives way to a smaller one
abbrev pub decreases-loop-x : goal.decreases-loop-x
decreases-loop-x l = sum_by (λ x. x + 1) (waiting l.q)
