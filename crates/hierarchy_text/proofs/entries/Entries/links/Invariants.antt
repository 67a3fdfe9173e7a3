use Rattle.std.proofs.Common.{vec_items}
use Rattle.hierarchy_text.specs.Sheets.{Written}
use Rattle.hierarchy_text.proofs.entries.Entries.links.Given as goal

abbrev pub invariant-loop-t : goal.invariant-loop-t
invariant-loop-t l = Written l.t (vec_items l.links)
