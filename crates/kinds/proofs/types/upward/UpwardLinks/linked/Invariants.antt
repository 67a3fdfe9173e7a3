use Rattle.std.proofs.Common.{take}
use Rattle.kinds.proofs.Linking.{Subtypes}
use Rattle.kinds.proofs.types.upward.UpwardLinks.linked.Given as goal

abbrev pub invariant-loop-link : goal.invariant-loop-link
invariant-loop-link l = Subtypes (take l.link-index l.self.links.now) l.types
