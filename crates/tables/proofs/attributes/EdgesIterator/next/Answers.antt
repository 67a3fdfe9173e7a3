use Rattle.std.proofs.Common.{◌-◌, ◌^◌, ◌<◌, refl, rules, arith}
use lib.Count.{count_trailing_zeros}
use Rattle.tables.proofs.Leading.{shown_edge}
use Rattle.tables.proofs.LowestBits.{lowest_is, without_is, shared_bit}
use Rattle.tables.proofs.attributes.EdgesIterator.next.Goals as goal

pub bounds-self-attribute : goal.bounds-self-attribute
bounds-self-attribute c =
    let fits : c.args.self.now.left < 2 ^ 32 = search rules in
    (lowest_is c.args.self.now.left (omega arith) fits).below

pub returns-clause-steps : goal.returns-clause-steps
returns-clause-steps c =
    let left = c.args.self.now.left in
    let fits : left < 2 ^ 32 = search rules in
    let low = lowest_is left (omega arith) fits in
    let shown = c.args.self.now.of_the_node (count_trailing_zeros 32 left) low.present in
    (refl, (low, without_is left (count_trailing_zeros 32 left) low, shown_edge c.args.self.now.node.now (count_trailing_zeros 32 left) low.below shown))

pub invariant_of-self : goal.invariant_of-self
invariant_of-self c = record {
  of_the_node = λ a e. c.args.self.now.of_the_node a (shared_bit c.args.self.now.left (c.args.self.now.left - 1) a e);
}

pub returns-clause-goes : goal.returns-clause-goes
returns-clause-goes c =
    let left = c.args.self.now.left in
    let fits : left < 2 ^ 32 = search rules in
    let less = (without_is left (count_trailing_zeros 32 left) (lowest_is left (omega arith) fits)).fewer in
    record { on = λ _. (tt, tt, omega arith); keeps = tt; rests = λ _. tt }
