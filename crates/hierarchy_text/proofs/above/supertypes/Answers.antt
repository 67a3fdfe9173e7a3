use Rattle.std.proofs.Common.{◌+◌, take, sym, subst}
use Rattle.hierarchy_text.specs.Sheets.{Supertypes}
use Rattle.hierarchy_text.proofs.Rising.{supertypes_none, supertypes_skip, supertypes_more}
use Rattle.hierarchy_text.proofs.above.supertypes.Goals as goal
use Rattle.hierarchy_text.proofs.above.supertypes.Goals.{then-link-t, else-link-t}

pub loop-link-init : goal.loop-link-init
loop-link-init c = supertypes_none c.args.t

pub loop-link-preserved : goal.loop-link-preserved
loop-link-preserved c =
    let links = c.args.links.now in let i = c.loop-link.link-index in let t = c.args.t in
    elim c.if-link-t.branch [
      | then-link-t w ↦ subst (λ x. Supertypes (take (i + 1) links) t x) (sym w.set-is)
          (supertypes_more links i t c.loop-link.set c.loop-link-test.true c.loop-link.invariant w.if-link-t.true (c.requires i c.loop-link-test.true).1)
      | else-link-t w ↦ subst (λ x. Supertypes (take (i + 1) links) t x) (sym w.set-is)
          (supertypes_skip links i t c.loop-link.set c.loop-link-test.true c.loop-link.invariant w.if-link-t.false)
    ]
