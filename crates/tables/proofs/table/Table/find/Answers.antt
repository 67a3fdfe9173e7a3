use Rattle.std.proofs.Common.{ℕ, List, get_or, sym, ap, ◌∙◌, subst}
use Rattle.std.proofs.lemmas.List.{drop_all}
use Rattle.features.specs.Graphs.{Leads, here}
use Rattle.tables.specs.declared.node.Node.{Node}
use Rattle.tables.specs.Views.{edge_of, graph}
use Rattle.tables.proofs.Extended.{read_row}
use Rattle.tables.proofs.Walking.{leads_more, leads_rest, leads_nowhere}
use Rattle.tables.proofs.table.Table.find.Goals as goal

pub returns-in_err-node : goal.returns-in_err-node
returns-in_err-node c =
    let g = graph c.args.self.now in
    let path = c.args.path.now in
    let i = c.loop-attribute.attribute-index in
    let node = c.loop-attribute.node in
    let read = read_row c.args.self.now node c.loop-attribute.invariant.0 c.index.result.now c.index.ensures in
    let lacks = sym (ap (λ (r : Node). edge_of r (get_or path i 0)) read) ∙ c.in_err-node.ensures in
    rw c.from_residual.ensures (λ n w. leads_nowhere g path i node c.loop-attribute-test.true lacks n (c.loop-attribute.invariant.2 n w))

pub loop-attribute-preserved : goal.loop-attribute-preserved
loop-attribute-preserved c =
    let g = graph c.args.self.now in
    let path = c.args.path.now in
    let i = c.loop-attribute.attribute-index in
    let node = c.loop-attribute.node in
    let next = c.in_ok-node.node in
    let l = c.loop-attribute-test.true in
    let read = read_row c.args.self.now node c.loop-attribute.invariant.0 c.index.result.now c.index.ensures in
    let leads = sym (ap (λ (r : Node). edge_of r (get_or path i 0)) read) ∙ c.in_ok-node.ensures in (
      c.requires.sound.edges_inside node (get_or path i 0) next c.loop-attribute.invariant.0 leads,
      λ n w. c.loop-attribute.invariant.1 n (leads_more g path i node l next leads n w),
      λ n w. leads_rest g path i node l next leads n (c.loop-attribute.invariant.2 n w),
    )

pub returns : goal.returns
returns c =
    let g = graph c.args.self.now in
    let node = c.loop-attribute.node in
    let none_left = drop_all c.loop-attribute.attribute-index c.args.path.now c.loop-attribute-test.false in
    (c.loop-attribute.invariant.1 node (subst (λ (xs : List ℕ). Leads g node xs node) (sym none_left) here), c.loop-attribute.invariant.0)
