use Rattle.std.proofs.Common.{◌≡◌, ℕ, Bool, true, false, eqb, MatchBool, vec_len, refl, subst, arith, eqb-true}
use borrow.Author.Tests.{eqb-false}
use Rattle.features.specs.Numbering.{by_attribute}
use Rattle.tables.specs.Views.{graph}
use Rattle.graphs.specs.Mentioned.{NumberedUpTo}
use Rattle.graphs.proofs.Numbering.{numbered_all, visited_numbered, all_numbered}
use Rattle.graphs.proofs.ordering.breadth_first.Goals as goal

pub returns-then-node-next : goal.returns-then-node-next
returns-then-node-next c bf =
    let t = c.args.table.now in
    let v = visited_numbered (graph t) bf c.loop-node.node c.loop-node.next (omega (arith, c.loop-node-test.true, c.len-node-end.ensures)) c.loop-node.invariant.0 in
    omega (arith, v, c.if-node-next.true)

pub returns : goal.returns
returns c =
    let t = c.args.table.now in
    let all : c.loop-node.node ≡ vec_len t.rows = omega (arith, c.loop-node.auto.node-end, c.loop-node-test.false, c.len-node-end.ensures) in
    let at_end = subst (λ (z : ℕ). NumberedUpTo (graph t) (by_attribute z 0) c.loop-node.next) all c.loop-node.invariant.0 in
    by_test (eqb c.loop-node.next c.len.result)
    (λ e. numbered_all (graph t) c.loop-node.next (omega (arith, eqb-true c.loop-node.next c.len.result e, c.len.ensures)) at_end)
    (λ e bf. all_numbered (graph t) bf c.loop-node.next at_end (omega (arith, eqb-false c.loop-node.next c.len.result e, c.len.ensures, c.loop-node.invariant.1)))
  where
    by_test : {P Q : Type 0} (b : Bool) → (b ≡ true → P) → (b ≡ false → Q) → MatchBool b P Q
    by_test true p q = p refl
    by_test false p q = q refl
