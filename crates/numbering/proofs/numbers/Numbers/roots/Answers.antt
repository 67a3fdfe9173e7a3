use Rattle.std.proofs.Common.{◌<◌, vec_len, ◌∙◌, arith}
use Rattle.queue.specs.Waiting.{waiting, capacity}
use Rattle.numbering.proofs.Steps.{root_free, root_mentioned}
use Rattle.numbering.proofs.numbers.Numbers.roots.Goals as goal

pub mention-requires-clause-free : goal.mention-requires-clause-free
mention-requires-clause-free c =
    let inside : c.loop-x.x < vec_len c.args.table.now.roots = omega (arith, c.loop-x-test.true, c.loop-x.auto.x-end, c.deref-root-items.ensures.len) in
    rw c.deref-root-items.ensures.value
    (root_free c.args.table.now c.requires.sound c.loop-x.x inside c.loop-x.self (waiting c.loop-x.queue) c.loop-x.invariant.0
    (capacity c.loop-x.queue) (omega (arith, c.requires.space, c.loop-x.invariant.1)))

pub loop-x-preserved : goal.loop-x-preserved
loop-x-preserved c =
    let inside : c.loop-x.x < vec_len c.args.table.now.roots = omega (arith, c.loop-x-test.true, c.loop-x.auto.x-end, c.deref-root-items.ensures.len) in (
      root_mentioned c.args.table.now c.requires.sound c.loop-x.x inside c.loop-x.self (waiting c.loop-x.queue) c.loop-x.invariant.0 c.mention.new.self
          (waiting c.mention.new.queue) (rw c.deref-root-items.ensures.value at c.mention.ensures.known) (rw c.deref-root-items.ensures.value at c.mention.ensures.fresh),
      c.mention.ensures.capacity ∙ c.loop-x.invariant.1,
    )
