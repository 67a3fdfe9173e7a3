use Rattle.std.proofs.Common.{vec_items}
use Rattle.hierarchy_text.proofs.Rising.{Rising}
use Rattle.hierarchy_text.proofs.sheet.Sheet.at_or_above.Given as goal

abbrev pub invariant-loop-u : goal.invariant-loop-u
invariant-loop-u l = Rising (vec_items l.self.links) l.t l.u l.set
