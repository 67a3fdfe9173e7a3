use Rattle.std.proofs.Common.{take}
use Rattle.kinds.proofs.Climbing.{Raised}
use Rattle.kinds.proofs.types.upward.UpwardLinks.raise.Given as goal

abbrev pub invariant-loop-link : goal.invariant-loop-link
invariant-loop-link l = Raised (take l.link-index l.self.links.now) l.subtype l.initial.below l.below
