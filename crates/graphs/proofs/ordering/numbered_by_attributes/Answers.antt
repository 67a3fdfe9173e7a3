use Rattle.std.proofs.Common.{◌≡◌, ℕ, ◌+◌, ◌<◌, vec_len, sym, ap, ◌∙◌, subst, arith}
use denote.Ref.{Bor}
use Rattle.features.specs.Numbering.{by_attribute}
use Rattle.tables.specs.declared.node.Node.{Node}
use Rattle.tables.specs.Views.{graph, edge_of}
use Rattle.graphs.specs.Mentioned.{LeftFrom}
use Rattle.graphs.proofs.Numbering.{mentioned_next}
use Rattle.graphs.proofs.Visiting.{numbered_node, numbered_here, numbered_more, left_next, with_mention_most}
use Rattle.graphs.proofs.ordering.numbered_by_attributes.Goals as goal

pub loop-target-preserved : goal.loop-target-preserved
loop-target-preserved c =
    let t = c.args.table.now in
    let i = c.args.node in
    let inv = c.loop-target.invariant in
    let r = c.loop-target.target-iterator.node.now in
    let left = c.loop-target.target-iterator.left in
    let next = c.loop-target.next in
    let x = c.in-Some.field-0-0 in
    let step = c.in-Some.ensures.steps in
    let is : (b : ℕ) → (graph t).edge i b ≡ edge_of r b = λ b. sym (ap (λ (z : Node). edge_of z b) inv.5) in
    let w = c.in_ok-next.ensures in
    let before : i < next = omega (arith, inv.4, c.requires.before) in
    let target = c.requires.sound.edges_inside i x c.in-Some.target c.requires.inside (is x ∙ step.1.2) in
    let most = with_mention_most next c.in-Some.target c.in_ok-next.next (vec_len t.rows) target inv.3 w in (
      x + 1,
      numbered_more r left inv.0 inv.2 (graph t) i is next inv.1 x c.in-Some.target c.in_ok-next.next step.1.0 step.1.2 c.requires.inside before w,
      subst (λ (z : Bor Node). LeftFrom z.now.present c.next.new.self.left (x + 1)) (sym step.0) (left_next r left inv.0 inv.2 x step.1.0 c.next.new.self.left step.1.1),
      most.1,
      omega (arith, inv.4, most.0),
      ap (λ (z : Bor Node). z.now) step.0 ∙ inv.5,
    )

pub returns-in_err-next : goal.returns-in_err-next
returns-in_err-next c =
    let t = c.args.table.now in
    let i = c.args.node in
    let inv = c.loop-target.invariant in
    let r = c.loop-target.target-iterator.node.now in
    let left = c.loop-target.target-iterator.left in
    let x = c.in-Some.field-0-0 in
    let step = c.in-Some.ensures.steps in
    let is : (b : ℕ) → (graph t).edge i b ≡ edge_of r b = λ b. sym (ap (λ (z : Node). edge_of z b) inv.5) in
    let leads = is x ∙ step.1.2 in
    let target = c.requires.sound.edges_inside i x c.in-Some.target c.requires.inside leads in
    rw c.from_residual.ensures
    (λ bf. mentioned_next (graph t) bf (by_attribute i x) c.in-Some.target c.loop-target.next target (c.requires.inside, leads)
    (numbered_here r left inv.0 inv.2 (graph t) i is c.loop-target.next inv.1 x step.1.0) c.in_err-next.ensures)

pub returns : goal.returns
returns c =
    let t = c.args.table.now in
    let inv = c.loop-target.invariant in
    let r = c.loop-target.target-iterator.node.now in
    let is : (b : ℕ) → (graph t).edge c.args.node b ≡ edge_of r b = λ b. sym (ap (λ (z : Node). edge_of z b) inv.5) in
    (numbered_node r c.loop-target.target-iterator.left inv.0 inv.2 (graph t) c.args.node is c.loop-target.next inv.1 c.in-None.ensures.steps.1.0, inv.3, inv.4)
