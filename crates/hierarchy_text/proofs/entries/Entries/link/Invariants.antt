use Rattle.std.proofs.Common.{vec_items}
use Rattle.hierarchy_text.proofs.Linking.{Growing}
use Rattle.hierarchy_text.proofs.entries.Entries.link.Given as goal

abbrev pub invariant-loop-name : goal.invariant-loop-name
invariant-loop-name l = Growing l.t l.name-index (vec_items l.links)
