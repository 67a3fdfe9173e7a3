use Rattle.std.proofs.Common.{◌≤◌, length, take}
use Rattle.kinds.specs.Meaning.{GreatestOfAll}
use Rattle.kinds.proofs.meet.meet_all.Given as goal

abbrev pub invariant-loop-value : goal.invariant-loop-value
invariant-loop-value g l =
    (l.value-index ≤ length l.values) × GreatestOfAll (g.K.Kind.meaning l.kind) (take l.value-index l.values) l.greatest
