use Rattle.std.proofs.Common.{◌≡◌, ℕ, ◌+◌, ◌<◌, List, get_or, vec_len, sym, ap, subst, arith}
use Rattle.features.specs.Numbering.{by_variable}
use Rattle.tables.specs.Views.{graph}
use Rattle.graphs.specs.Mentioned.{NumberedUpTo}
use Rattle.graphs.proofs.Numbering.{next_variable, to_attributes, mentioned_next}
use Rattle.graphs.proofs.Visiting.{numbered_with, with_mention_most}
use Rattle.graphs.proofs.ordering.numbered_by_variables.Goals as goal

pub loop-root-preserved : goal.loop-root-preserved
loop-root-preserved c =
    let t = c.args.table.now in
    let x = c.loop-root.root-index in
    let n = get_or c.deref-root-items.result.now x 0 in
    let l : x < vec_len t.roots = omega (arith, c.loop-root-test.true, c.deref-root-items.ensures.len) in
    let root : (graph t).root x ≡ n = sym (ap (λ (xs : List ℕ). get_or xs x 0) c.deref-root-items.ensures.value) in
    let w = c.in_ok-next.ensures in
    let next = c.loop-root.next in (
      numbered_with (graph t) (by_variable x) (by_variable (x + 1)) n next c.in_ok-next.next (l, root) (λ e. tt) (next_variable (graph t) x) w c.loop-root.invariant.0,
      (with_mention_most next n c.in_ok-next.next (vec_len t.rows) (omega (arith, root, c.requires.roots_inside x l)) c.loop-root.invariant.1 w).1,
    )

pub returns-in_err-next : goal.returns-in_err-next
returns-in_err-next c =
    let t = c.args.table.now in
    let x = c.loop-root.root-index in
    let n = get_or c.deref-root-items.result.now x 0 in
    let l : x < vec_len t.roots = omega (arith, c.loop-root-test.true, c.deref-root-items.ensures.len) in
    let root : (graph t).root x ≡ n = sym (ap (λ (xs : List ℕ). get_or xs x 0) c.deref-root-items.ensures.value) in
    let inside : n < vec_len t.rows = omega (arith, root, c.requires.roots_inside x l) in
    rw c.from_residual.ensures (λ bf. mentioned_next (graph t) bf (by_variable x) n c.loop-root.next inside (l, root) c.loop-root.invariant.0 c.in_err-next.ensures)

pub returns : goal.returns
returns c =
    let t = c.args.table.now in
    let all : c.loop-root.root-index ≡ vec_len t.roots = omega (arith, c.loop-root.auto.root-index-end, c.loop-root-test.false, c.deref-root-items.ensures.len) in (
      to_attributes (graph t) c.loop-root.next (subst (λ (z : ℕ). NumberedUpTo (graph t) (by_variable z) c.loop-root.next) all c.loop-root.invariant.0),
      c.loop-root.invariant.1,
    )
