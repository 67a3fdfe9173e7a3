use Rattle.std.proofs.Common.{vec_items}
use Rattle.hierarchy_text.specs.Sheets.{Marked}
use Rattle.hierarchy_text.proofs.entries.Entries.leaf_marks.Given as goal

abbrev pub invariant-loop-t : goal.invariant-loop-t
invariant-loop-t l = Marked (vec_items l.self.list) l.t l.marks
