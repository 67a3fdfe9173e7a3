use Rattle.std.proofs.Common.{◌≡◌, ◌+◌, ◌≢◌, [], ◌∷◌, ◌++◌, vec_items, vec_len, sym, ◌∙◌, subst, arith, rules}
use borrow.Author.Tests.{eqb-false}
use Rattle.hierarchy_text.proofs.Linking.{Growing, growing_more, growing_done}
use Rattle.hierarchy_text.proofs.entries.Entries.link.Goals as goal
use Rattle.hierarchy_text.proofs.entries.Entries.link.Goals.{else-t-ne0-via-then-t-ne0+else-is_empty, else-t-ne0-via-else-t-ne0}

pub loop-name-preserved : goal.loop-name-preserved
loop-name-preserved c =
    let t = c.args.t in let k = c.loop-name.name-index in let links = c.loop-name.links in
    let e : vec_items c.push.new.self ≡ vec_items links ++ (record { subtype = t; supertype = c.in_ok-supertype.supertype }) ∷ [] = search rules in
    subst (λ x. Growing t (k + 1) x) (sym e) (growing_more t k c.in_ok-supertype.supertype (vec_items links) c.loop-name.invariant c.in_ok-supertype.ensures.0)

pub returns : goal.returns
returns c =
    growing_done c.args.t c.loop-name.name-index (vec_items c.loop-name.links) c.loop-name.invariant
    (λ h. elim c.else-t-ne0.branch [
      | else-t-ne0-via-then-t-ne0+else-is_empty w ↦
          let some : vec_len c.args.entry.now.supertypes ≢ 0 = eqb-false _ 0 (sym w.is_empty-then-t-ne0.ensures ∙ w.if-is_empty.false) in
          omega (arith, c.deref-name-items.ensures.len)
      | else-t-ne0-via-else-t-ne0 w ↦ absurd (omega arith)
    ])
