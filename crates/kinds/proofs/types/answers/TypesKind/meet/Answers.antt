use Rattle.std.proofs.Common.{◌≡◌, get_or, length, ap₂, subst, rules}
use lib.Bits.{bit_and}
use Rattle.kinds.specs.Masks.{LowestBit}
use Rattle.kinds.specs.Hierarchies.{sound_known, meet_answered}
use Rattle.kinds.proofs.types.answers.TypesKind.meet.Goals as goal

pub returns : goal.returns
returns c =
    let k = c.args.self.now in let below = k.order.below.items in let a = c.args.a in let b = c.args.b in
    let x : c.in_ok-get.field-0.now ≡ get_or below a 0 = search rules in
    let y : c.in_ok-common.field-0.now ≡ get_or below b 0 = search rules in
    let low = subst (λ z. LowestBit z c.lowest_bit.result) (ap₂ bit_and x y) c.lowest_bit.ensures in
    let same : c.map.result ≡ c.lowest_bit.result = search rules in
    rw same (meet_answered (length below) below k.leaves (sound_known _ _ _ k.sound) a b (search rules) (search rules) c.lowest_bit.result low)
