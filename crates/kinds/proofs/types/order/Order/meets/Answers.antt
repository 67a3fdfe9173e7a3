use Rattle.kinds.proofs.Grounds.{none_common, bit_common, beyond_answers}
use Rattle.kinds.proofs.types.order.Order.meets.Goals as goal

pub set-requires-in-Some : goal.set-requires-in-Some
set-requires-in-Some c =
    let k = c.args.self.now in
    let both = bit_common k.below.items c.args.a c.args.b c.set.result c.set-2.result c.set.ensures c.set-2.ensures c.in-Some.lowest c.in-Some.ensures.1 in
    k.types c.in-Some.lowest c.args.a both.0

pub returns-in-Some : goal.returns-in-Some
returns-in-Some c =
    let low = c.in-Some.ensures in
    beyond_answers c.args.self.now.below.items c.args.a c.args.b c.set.result c.set-2.result c.set.ensures c.set-2.ensures c.in-Some.lowest
    c.set-in-Some.result c.set-in-Some.ensures low.1 low.2 c.set.type_inv c.set-in-Some.type_inv

pub returns-in-None : goal.returns-in-None
returns-in-None c =
    none_common c.args.self.now.below.items c.args.a c.args.b c.set.result c.set-2.result c.set.ensures c.set-2.ensures c.in-None.ensures
