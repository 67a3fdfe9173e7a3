use Rattle.std.proofs.Common.{◌≡◌, ◌+◌, take, set, get_or, sym, subst, arith}
use lib.Bits.{bit_or}
use Rattle.std.proofs.lemmas.List.{take_all}
use Rattle.kinds.specs.Types.{link_at}
use Rattle.kinds.proofs.Climbing.{Raised, raised_none, raised_skip, raised_link}
use Rattle.kinds.proofs.types.upward.UpwardLinks.raise.Goals as goal
use Rattle.kinds.proofs.types.upward.UpwardLinks.raise.Goals.{then-link-subtype, else-link-subtype}

pub loop-link-init : goal.loop-link-init
loop-link-init c = raised_none c.args.subtype c.args.below.now

pub loop-link-preserved : goal.loop-link-preserved
loop-link-preserved c =
    let links = c.args.self.now.links.now in let i = c.loop-link.link-index in let s = c.args.subtype in
    let old = c.args.below.now in let now = c.loop-link.below in
    elim c.if-link-subtype.branch [
      | then-link-subtype w ↦
          let up = c.args.self.now.upward i c.loop-link-test.true in let long = c.loop-link.auto.below in
          let p = (link_at links i).supertype in
          let e : c.if-link-subtype.below ≡ set now p (bit_or (get_or now p 0) (get_or old s 0)) =
          cc (w.below-is, w.from-then-link-subtype.ensures, c.from.ensures) in
          subst (λ x. Raised (take (i + 1) links) s old x) (sym e)
          (raised_link links i s old now c.loop-link-test.true c.loop-link.invariant w.if-link-subtype.true (omega arith))
      | else-link-subtype w ↦ subst (λ x. Raised (take (i + 1) links) s old x) (sym w.below-is)
          (raised_skip links i s old now c.loop-link-test.true c.loop-link.invariant w.if-link-subtype.false)
    ]

pub returns : goal.returns
returns c =
    let r = subst (λ x. Raised x c.args.subtype c.args.below.now c.loop-link.below) (take_all c.loop-link.link-index c.args.self.now.links.now (omega arith)) c.loop-link.invariant in
    record { only = r.0; kept = r.1; raised = r.2 }
