use Rattle.std.proofs.Common.{ℕ, ◌+◌, ◌≤◌, arith}
use Rattle.queue.specs.Waiting.{waiting}
use Rattle.queue.proofs.Turns.{popped_all, pushed_all, popped_lighter, pushed_lighter}
use Rattle.queue.proofs.tests.last_half.Goals as goal

pub loop-x-smaller-then-x-gt1 : goal.loop-x-smaller-then-x-gt1
loop-x-smaller-then-x-gt1 c =
    pushed_lighter (λ x. x + 1) _ _ _ c.in-Some.ensures.first _ _ _ c.push-then-x-gt1.ensures.after (omega arith)

pub loop-x-preserved-then-x-gt1 : goal.loop-x-preserved-then-x-gt1
loop-x-preserved-then-x-gt1 c =
    let Low : ℕ → Type 0 = λ x. x ≤ c.args.start in
    let popped = waiting c.pop.new.self in
    let all = popped_all Low (waiting c.loop-x.q) popped c.in-Some.x c.in-Some.ensures.first c.loop-x.invariant.1 in
    let low : c.in-Some.x ≤ c.args.start = all.0 in
    (low, pushed_all Low popped _ _ _ c.push-then-x-gt1.ensures.after all.1 (omega arith))

pub loop-x-smaller : goal.loop-x-smaller
loop-x-smaller c = popped_lighter (λ x. x + 1) _ _ _ c.in-Some.ensures.first (omega arith)
