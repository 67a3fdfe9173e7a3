use Rattle.std.proofs.Common.{Some, lit<}
use Rattle.kinds.specs.ValueSets.{value_sets}
use Rattle.kinds.specs.LawfulSets.{sets_lawful, shared_greatest}
use Rattle.kinds.proofs.Meets.{pair_unique}
use Rattle.kinds.proofs.examples.overlapping_sets.Goals as goal

pub returns : goal.returns
returns c = pair_unique value_sets sets_lawful 3 6 c.meet.result (Some 2) c.meet.ensures (shared_greatest 3 6 (lit< tt) (lit< tt) (lit< tt))
