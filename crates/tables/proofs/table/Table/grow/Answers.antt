use Rattle.std.proofs.Common.{ℕ, List, sym, ◌∙◌, subst, arith}
use Rattle.std.proofs.lemmas.List.{drop_all}
use Rattle.growth.specs.Changes.{Grown, ends}
use Rattle.tables.specs.Views.{graph, values}
use Rattle.tables.proofs.Walking.{grown_more, small_here, small_rest}
use Rattle.tables.proofs.table.Table.grow.Goals as goal

pub step_or_add-node-requires : goal.step_or_add-node-requires
step_or_add-node-requires c =
    let inv = c.loop-attribute.invariant in
    record {
      sound = inv.5;
      inside = inv.0;
      row_left = omega (arith, inv.2);
      small = small_here c.args.path.now c.loop-attribute.attribute-index c.loop-attribute-test.true inv.6;
    }

pub loop-attribute-preserved : goal.loop-attribute-preserved
loop-attribute-preserved c =
    let inv = c.loop-attribute.invariant in
    let s = c.step_or_add-node.ensures in
    let path = c.args.path.now in
    let i = c.loop-attribute.attribute-index in
    let l = c.loop-attribute-test.true in (
      s.inside,
      omega (arith, inv.1, s.least),
      omega (arith, inv.2, s.most),
      s.vars ∙ inv.3,
      s.roots ∙ inv.4,
      s.sound,
      small_rest path i l inv.6,
      λ h state e w. inv.7 h state e (grown_more c.args.top c.loop-attribute.self c.step_or_add-node.new.self c.loop-attribute.node c.step_or_add-node.result path i l s h state e w),
    )

pub returns : goal.returns
returns c =
    let inv = c.loop-attribute.invariant in
    let u = c.loop-attribute.self in
    let node = c.loop-attribute.node in
    let none_left = drop_all c.loop-attribute.attribute-index c.args.path.now c.loop-attribute-test.false in
    record {
      grown = inv.7 (graph u) (values u) node (subst (λ (xs : List ℕ). Grown c.args.top (graph u) (values u) node xs (graph u) (values u) node) (sym none_left) ends);
      inside = inv.0;
      least = inv.1;
      most = omega (arith, inv.2);
      vars = inv.3;
      roots = inv.4;
      sound = inv.5;
    }
