use Rattle.std.proofs.Common.{◌≡◌, take}
use Rattle.notation.specs.Readings.{text}
use Rattle.notation.specs.Views.{reading_of}
use Rattle.notation.proofs.read.Given as goal

abbrev pub invariant-loop-i : goal.invariant-loop-i
invariant-loop-i l = text (reading_of l.state) ≡ take l.i l.line
