use Rattle.std.proofs.Common.{rules, tests}
use Rattle.kinds.proofs.Linking.{orphan_answers}
use Rattle.kinds.proofs.types.upward.UpwardLinks.first_orphan.Goals as goal

pub returns : goal.returns
returns c =
    let k = c.args.self.now in
    orphan_answers k.count k.links.now c.linked.result k.counted.1 c.linked.type_inv
    (c.linked.ensures.only, c.linked.ensures.all) c.lowest_bit.result _ c.lowest_bit.ensures (search (rules, tests))
