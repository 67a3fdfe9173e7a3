use Rattle.std.proofs.Common.{ℕ, ◌+◌, List, take, Some, None, subst, arith, take_all, rules}
use Rattle.kinds.specs.Meaning.{GreatestOfAll}
use Rattle.kinds.proofs.Meets.{greatest_none, meet_next, apart_more, take_among, meet_of_members}
use Rattle.kinds.proofs.meet.meet_all.Goals as goal

pub loop-value-init : goal.loop-value-init
loop-value-init g c =
    let m = g.K.Kind.meaning c.args.kind.now in
    let laws = g.met.K.Kind.lawful c.args.kind.now in
    (omega arith, greatest_none m laws _ (search rules))

pub returns-in_err-greatest : goal.returns-in_err-greatest
returns-in_err-greatest g c =
    let m = g.K.Kind.meaning c.args.kind.now in
    let laws = g.met.K.Kind.lawful c.args.kind.now in
    let xs = c.args.values.now in
    let n = c.loop-value.value-index + 1 in
    let front = meet_next m laws xs _ _ None c.loop-value-test.true c.loop-value.invariant.1 c.in_err-greatest.ensures in
    let apart = apart_more m (take n xs) xs (take_among n xs) front in
    record {
      greatest = rw c.from_residual.ensures apart;
      members = rw c.from_residual.ensures (meet_of_members m laws xs None apart);
    }

pub loop-value-preserved : goal.loop-value-preserved
loop-value-preserved g c =
    let m = g.K.Kind.meaning c.args.kind.now in
    let laws = g.met.K.Kind.lawful c.args.kind.now in
    let xs = c.args.values.now in
    let meet = Some c.in_ok-greatest.greatest in
    (omega arith, meet_next m laws xs _ _ meet c.loop-value-test.true c.loop-value.invariant.1 c.in_ok-greatest.ensures)

pub returns : goal.returns
returns g c =
    let m = g.K.Kind.meaning c.args.kind.now in
    let laws = g.met.K.Kind.lawful c.args.kind.now in
    let xs = c.args.values.now in
    let v = c.loop-value.greatest in
    let whole = take_all c.loop-value.value-index xs c.loop-value-test.false in
    let greatest = subst (λ (ys : List ℕ). GreatestOfAll m ys v) whole c.loop-value.invariant.1 in
    record { greatest = greatest; members = meet_of_members m laws xs (Some v) greatest }
