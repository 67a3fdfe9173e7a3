use Rattle.std.proofs.Common.{◌≡◌, get_or, sym, subst, rules}
use lib.Bits.{bit_or}
use Rattle.kinds.proofs.Grounds.{Covering, Covers, covering_none, covering_past, covering_more, covering_whole}
use Rattle.kinds.proofs.Taken.{taken, none_left}
use Rattle.kinds.proofs.types.order.Order.covered.Goals as goal

pub loop-t-init : goal.loop-t-init
loop-t-init c =
    let below = c.args.self.now.below.items in let marks = c.args.marks in
    let e : c.into_iter-t-iterator.result.left ≡ marks = cc in
    subst (λ x. Covering below marks x 0) (sym e) (covering_none below marks)

pub loop-t-preserved : goal.loop-t-preserved
loop-t-preserved c =
    let left = c.loop-t.t-iterator in let rest = c.next.new.self in
    covering_past c.args.self.now.below.items c.args.marks left.left c.in-Some.t rest.left c.loop-t.types c.loop-t.invariant
    (taken left rest c.in-Some.t c.in-Some.ensures.steps) (search rules)

pub loop-t-preserved-in-Some-get : goal.loop-t-preserved-in-Some-get
loop-t-preserved-in-Some-get c =
    let below = c.args.self.now.below.items in let left = c.loop-t.t-iterator in let rest = c.next.new.self in
    let t = c.in-Some.t in let types = c.loop-t.types in
    let e : c.in-Some-get.set.now ≡ get_or below t 0 = search rules in
    subst (λ x. Covering below c.args.marks rest.left (bit_or types x)) (sym e)
    (covering_more below c.args.marks left.left t rest.left types c.loop-t.invariant
    (taken left rest t c.in-Some.ensures.steps) (search rules))

pub returns : goal.returns
returns c =
    let w : Covers c.args.self.now.below.items c.args.marks c.loop-t.types =
    covering_whole c.args.self.now.below.items c.args.marks c.loop-t.t-iterator.left c.loop-t.types c.loop-t.invariant
    (none_left c.loop-t.t-iterator c.in-None.ensures.steps.0) in
    record { only = w.0; all = w.1 }
