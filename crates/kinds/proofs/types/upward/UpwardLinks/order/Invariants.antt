use Rattle.std.proofs.Common.{◌≡◌, length}
use Rattle.kinds.proofs.Climbing.{Whole}
use Rattle.kinds.proofs.types.upward.UpwardLinks.order.Given as goal

abbrev pub invariant-loop-t : goal.invariant-loop-t
invariant-loop-t l = (length l.below.items ≡ l.self.count) × Whole l.self.count l.self.links.now l.t l.below.items
