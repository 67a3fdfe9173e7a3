use Rattle.kinds.proofs.Grounds.{Covering}
use Rattle.kinds.proofs.types.order.Order.covered.Given as goal

abbrev pub invariant-loop-t : goal.invariant-loop-t
invariant-loop-t l = Covering l.self.below.items l.marks l.t-iterator.left l.types
