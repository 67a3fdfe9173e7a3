use Rattle.kinds.proofs.Grounds.{Covers, bit_astray, astray_bit}
use Rattle.kinds.proofs.Options.{cases_then}
use Rattle.kinds.proofs.types.order.Order.first_astray.Goals as goal

pub returns : goal.returns
returns c =
    let below = c.args.self.now.below.items in let marks = c.args.marks in let types = c.covered.result in
    let whole : Covers below marks types = (c.covered.ensures.only, c.covered.ensures.all) in
    let astray = bit_astray below marks types whole c.ranges.marks.fits c.covered.type_inv c.set.result c.set.ensures c.set.type_inv in
    let bit = astray_bit below marks types whole c.ranges.marks.fits c.covered.type_inv c.set.result c.set.ensures c.set.type_inv in
    cases_then c.lowest_bit.result (λ none t a. none t (bit t a)) (λ t found. (astray t found.1, λ u a. found.2 u (bit u a)))
    c.lowest_bit.ensures
