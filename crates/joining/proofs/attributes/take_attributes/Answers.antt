use Rattle.std.proofs.Common.{◌≡◌, ◌^◌, ◌<◌, sym, refl, ap, ◌∙◌, arith, rules}
use lib.Count.{ones, ones-le}
use Rattle.queue.specs.Waiting.{waiting}
use Rattle.kinds.specs.Masks.{has}
use Rattle.tables.specs.declared.node.Node.{Node}
use Rattle.tables.specs.Views.{edge_of, graph}
use Rattle.tables.proofs.Extended.{read_row}
use Rattle.tables.proofs.Leading.{not_present}
use Rattle.joining.specs.Workspaces.{Waits}
use Rattle.joining.proofs.Taking.{edged_same, edged_then, taking_begun, taking_more, taking_ended, longer_by_one}
use Rattle.joining.proofs.attributes.take_attributes.Goals as goal

pub loop-attribute-init : goal.loop-attribute-init
loop-attribute-init c =
    let t = c.args.table.now in
    let node = c.index.result.now in
    let read = read_row t c.args.from c.requires.from node c.index.ensures in
    let edges = c.into_iter-attribute-iterator.result in
    let left : edges.left ≡ node.present = ap (λ (z : _). z.left) c.into_iter-attribute-iterator.ensures.into_iter_gives ∙ c.edges-attribute-items.ensures.left in
    let fits : node.present < 2 ^ 32 = search rules in (
      edged_same t,
      taking_begun (graph t).edge (Waits (waiting c.args.queue.now)) c.args.to c.args.from edges.left
          (λ a e. ap (λ (r : Node). edge_of r a) (sym read) ∙ not_present node a (ap (λ z. has z a) (sym left) ∙ e)),
      omega (arith, ap ones left, ones-le 32 node.present fits),
      refl,
      ap (λ (z : _). z.node.now) c.into_iter-attribute-iterator.ensures.into_iter_gives ∙ c.edges-attribute-items.ensures.node ∙ read,
    )

pub loop-attribute-preserved : goal.loop-attribute-preserved
loop-attribute-preserved c =
    let inv = c.loop-attribute.invariant in
    let t = c.args.table.now in
    let a = c.in-Some.attribute in
    let step = c.in-Some.ensures.steps in
    let leads = sym (ap (λ (r : Node). edge_of r a) inv.4) ∙ step.1.2 in
    let e = c.take_attribute.ensures in (
      edged_then t c.loop-attribute.table c.take_attribute.new.table inv.0 e.edged,
      taking_more (graph t).edge (Waits (waiting c.args.queue.now)) c.args.to c.args.from c.loop-attribute.attribute-iterator.left a c.in-Some.target c.next.new.self.left
          (graph c.loop-attribute.table).edge (waiting c.loop-attribute.queue) (graph c.take_attribute.new.table).edge (waiting c.take_attribute.new.queue)
          step.1.0 step.1.1 leads inv.1 e.takes,
      omega (
        arith,
        inv.2,
        longer_by_one (graph t).edge (Waits (waiting c.args.queue.now)) c.args.to c.args.from c.loop-attribute.attribute-iterator.left a c.in-Some.target c.next.new.self.left
            (graph c.loop-attribute.table).edge (waiting c.loop-attribute.queue) (graph c.take_attribute.new.table).edge (waiting c.take_attribute.new.queue)
            step.1.0 step.1.1 leads inv.1 e.takes,
      ),
      e.room ∙ inv.3,
      ap (λ (z : _). z.now) step.0 ∙ inv.4,
    )

pub returns-clause-takes : goal.returns-clause-takes
returns-clause-takes c =
    taking_ended (graph c.args.table.now).edge (Waits (waiting c.args.queue.now)) c.args.to c.args.from c.loop-attribute.attribute-iterator.left
    (graph c.loop-attribute.table).edge (Waits (waiting c.loop-attribute.queue)) c.in-None.ensures.steps.1.0 c.loop-attribute.invariant.1
