use Rattle.std.proofs.Common.{◌≡◌, ◌<◌, List, length, get_or, vec_items, subst, arith}
use Rattle.tables.specs.Views as tables
use Rattle.session.specs.declared.parts.Apart.{Apart}
use Rattle.session.proofs.Keeping.{only_there, tried_on_one, none_through}
use Rattle.session.proofs.session.Session.first_broken.Goals as goal

pub loop-i-preserved : goal.loop-i-preserved
loop-i-preserved g c =
    let i = c.loop-i.i in
    let x = c.apart-item.result in
    let items = c.deref-apart-items.ensures.value in
    none_through (tables.graph c.args.table.now) (vec_items c.args.self.now.aparts) i x
    (subst (λ (xs : List Apart). i < length xs) items c.loop-i-test.true) (subst (λ (xs : List Apart). x ≡ get_or xs i x) items c.apart-item.is)
    _ _ c.term.ensures.value c.term-in-loop-i.ensures.value c.loop-i.invariant c.if-on_one_node.ensures

pub returns-then-on_one_node : goal.returns-then-on_one_node
returns-then-on_one_node g c =
    let i = c.loop-i.i in
    let x = c.apart-item.result in
    let items = c.deref-apart-items.ensures.value in (
      tried_on_one (tables.graph c.args.table.now) (vec_items c.args.self.now.aparts) i x
          (subst (λ (xs : List Apart). i < length xs) items c.loop-i-test.true) (subst (λ (xs : List Apart). x ≡ get_or xs i x) items c.apart-item.is)
          _ _ c.term.ensures.value c.term-in-loop-i.ensures.value c.if-on_one_node.ensures,
      c.loop-i.invariant,
    )

pub returns : goal.returns
returns g c i d =
    let l = only_there (tables.graph c.args.table.now) (vec_items c.args.self.now.aparts) i d in
    let long : length c.deref-apart-items.result.now ≡ length (vec_items c.args.self.now.aparts) = cc c.deref-apart-items.ensures.value in
    c.loop-i.invariant i (omega (arith, l, long, c.loop-i-test.false)) d
