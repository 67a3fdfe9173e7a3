use Rattle.std.proofs.Common.{take}
use Rattle.hierarchy_text.specs.Sheets.{Supertypes}
use Rattle.hierarchy_text.proofs.above.supertypes.Given as goal

abbrev pub invariant-loop-link : goal.invariant-loop-link
invariant-loop-link l = Supertypes (take l.link-index l.links) l.t l.set
