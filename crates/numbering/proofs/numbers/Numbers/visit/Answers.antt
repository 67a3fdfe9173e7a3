use Rattle.std.proofs.Common.{◌≡◌, ℕ, ◌+◌, vec_items, sym, ap, ◌∙◌, subst, arith}
use mathlib.Core.Option.{some}
use Rattle.features.specs.Numbering.{by_attribute}
use Rattle.tables.specs.Views.{row as row_of, edge_of, graph}
use Rattle.queue.specs.Waiting.{waiting, capacity}
use Rattle.numbering.specs.Frontier.{Underway}
use Rattle.numbering.proofs.Steps.{number_read}
use Rattle.numbering.proofs.Visiting.{one_less, target_free, target_mentioned, row_stays, visit_done}
use Rattle.numbering.proofs.numbers.Numbers.visit.Goals as goal

pub mention-requires-clause-free : goal.mention-requires-clause-free
mention-requires-clause-free c =
    let t = c.args.table.now in
    let inv = c.loop-attribute.invariant in
    let step = c.in-Some.ensures.steps.1 in
    let leads : (graph t).edge c.args.row c.in-Some.attribute ≡ some c.in-Some.target = ap (λ z. edge_of z c.in-Some.attribute) (sym inv.4) ∙ step.2 in
    target_free t c.requires.sound c.args.row c.requires.inside c.loop-attribute.self c.index-giver.result.now inv.2 (waiting c.loop-attribute.queue)
    c.loop-attribute.attribute-iterator.left inv.0 inv.3 inv.1 c.in-Some.attribute c.in-Some.target step.0 leads (capacity c.loop-attribute.queue)
    (omega (arith, c.requires.space, inv.5))

pub loop-attribute-preserved : goal.loop-attribute-preserved
loop-attribute-preserved c =
    let t = c.args.table.now in
    let n = c.loop-attribute.self in
    let i = c.index-giver.result.now in
    let inv = c.loop-attribute.invariant in
    let a = c.in-Some.attribute in
    let left = c.loop-attribute.attribute-iterator.left in
    let step = c.in-Some.ensures.steps.1 in
    let leads : (graph t).edge c.args.row a ≡ some c.in-Some.target = ap (λ z. edge_of z a) (sym inv.4) ∙ step.2 in (
      a + 1,
      target_mentioned t c.requires.sound c.args.row c.requires.inside n i inv.2 (waiting c.loop-attribute.queue) left inv.0 inv.3 inv.1 a c.in-Some.target step.0 leads
          c.mention.new.self (waiting c.mention.new.queue) c.mention.ensures.known c.mention.ensures.fresh,
      row_stays t c.requires.sound c.args.row c.requires.inside n i inv.2 (waiting c.loop-attribute.queue) left inv.0 inv.3 inv.1 a c.in-Some.target step.0 leads
          c.mention.new.self (waiting c.mention.new.queue) c.mention.ensures.known c.mention.ensures.fresh,
      one_less (row_of (vec_items t.rows) c.args.row).present left inv.0 a inv.3 step.0 c.next.new.self.left step.1,
      ap (λ z. z.now) c.in-Some.ensures.steps.0 ∙ inv.4,
      c.mention.ensures.capacity ∙ inv.5,
    )

pub returns-clause-numbered : goal.returns-clause-numbered
returns-clause-numbered c =
    let t = c.args.table.now in
    let inv = c.loop-attribute.invariant in
    let i = c.index-giver.result.now in
    let e = number_read c.args.self.now c.args.row i (omega (arith, c.requires.inside, c.requires.sound.rows)) c.index-giver.ensures in
    let done = visit_done t c.requires.sound c.args.row c.requires.inside c.loop-attribute.self i inv.2 (waiting c.loop-attribute.queue)
    c.loop-attribute.attribute-iterator.left inv.0 inv.3 inv.1 c.in-None.ensures.steps.1.0 in
    subst (λ (z : ℕ). Underway (graph t) (by_attribute (z + 1) 0) (z + 1) c.loop-attribute.self (waiting c.loop-attribute.queue)) (sym e) done
