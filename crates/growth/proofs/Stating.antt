-- An equation and a value closed: the terms are grown, and then the nodes are joined or the value comes.
use Rattle.growth.specs.Theorems.{mentioning, EquationStands, ValueOfTermStands}
use Rattle.growth.proofs.Growing.{grown_from_root, pair_grown, equation_mentions, value_mentions}
use Rattle.growth.proofs.Quotients.{join_stands}
use Rattle.growth.proofs.Values.{value_stands}

pub equation_stands : EquationStands
equation_stands m lawful g f k h state between grown state' vars said p q s t become stands x y first second quotient =
    let r = pair_grown m lawful vars g f k state between grown said p q s t stands x y first second in
    equation_mentions m h state' vars said p q
    (join_stands m k h grown state' vars (mentioning m (mentioning m said p) q) p q s t become lawful r.0.stands r.1 r.0.ends_there quotient)

pub value_of_term_stands : ValueOfTermStands
value_of_term_stands m lawful g k h state grown state' vars said p e v stands x first come =
    let r = grown_from_root m lawful vars said p stands x first in
    value_mentions m h state' vars said p v (value_stands m k h grown state' vars (mentioning m said p) p e v lawful r.stands r.ends_there come)
