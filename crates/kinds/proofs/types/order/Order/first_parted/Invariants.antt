use Rattle.std.proofs.Common.{ℕ, ◌<◌, length}
use Rattle.kinds.specs.Hierarchy.{UnderLowest}
use Rattle.kinds.proofs.types.order.Order.first_parted.Given as goal

abbrev pub invariant-loop-a : goal.invariant-loop-a
invariant-loop-a l = (x y : ℕ) → x < l.a → x < y → y < length l.self.below.items → UnderLowest l.self.below.items x y
