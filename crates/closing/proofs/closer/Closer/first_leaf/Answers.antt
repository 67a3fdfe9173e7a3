use Rattle.std.proofs.Common.{◌^◌, ◌<◌, List, vec_len, sym, ap, ◌∙◌, arith, rules, below_more}
use Rattle.tables.specs.declared.node.Node.{Node}
use Rattle.tables.specs.Views.{row}
use Rattle.closing.proofs.Leaves.{leaf_there, bare_there, no_leaf_there}
use Rattle.closing.proofs.closer.Closer.first_leaf.Goals.{else-node-ne0-via-then-node-ne0+else-is_leaf, else-node-ne0-via-else-node-ne0}
use Rattle.closing.proofs.closer.Closer.first_leaf.Goals as goal

pub returns-then-is_leaf : goal.returns-then-is_leaf
returns-then-is_leaf g c =
    let s = c.args.self.now in
    let k = c.loop-k.k in
    let node = row c.deref-node-items.result.now k in
    let l : k < vec_len s.next.rows = omega (arith, c.loop-k-test.true, c.deref-node-items.ensures.len) in
    let fits : node.present < 2 ^ 32 = search rules in (
      omega (arith, l, c.requires.arranged.same.nodes),
      leaf_there (g.K.Kind.meaning c.args.kind.now) s c.requires.arranged c.requires.valued k l node (ap (λ (xs : List Node). row xs k) c.deref-node-items.ensures.value)
          c.if-node-ne0.true fits (sym c.is_leaf.ensures ∙ c.if-is_leaf.true),
      c.loop-k.invariant,
    )

pub loop-k-preserved : goal.loop-k-preserved
loop-k-preserved g c =
    let s = c.args.self.now in
    let m = g.K.Kind.meaning c.args.kind.now in
    let k = c.loop-k.k in
    let node = row c.deref-node-items.result.now k in
    let l : k < vec_len s.next.rows = omega (arith, c.loop-k-test.true, c.deref-node-items.ensures.len) in
    let read = ap (λ (xs : List Node). row xs k) c.deref-node-items.ensures.value in
    below_more _ _ c.loop-k.invariant
    (elim c.else-node-ne0.branch [
      | else-node-ne0-via-then-node-ne0+else-is_leaf w ↦ no_leaf_there m s c.requires.arranged c.requires.valued k l node read (sym w.is_leaf.ensures ∙ w.if-is_leaf.false)
      | else-node-ne0-via-else-node-ne0 w ↦ bare_there m s c.requires.arranged c.requires.valued k l node read w.if-node-ne0.false
    ])

pub returns : goal.returns
returns g c = λ k lt. c.loop-k.invariant k (omega (arith, lt, c.loop-k-test.false, c.deref-node-items.ensures.len, c.requires.arranged.same.nodes))
