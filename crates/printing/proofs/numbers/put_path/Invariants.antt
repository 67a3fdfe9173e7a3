use mathlib.Core.List.{flat_map}
use Rattle.std.proofs.Common.{take}
use Rattle.buffers.specs.Writing.{Wrote}
use Rattle.printing.proofs.Flat.{attribute_text}
use Rattle.printing.proofs.numbers.put_path.Given as goal

abbrev pub invariant-loop-attribute : goal.invariant-loop-attribute
invariant-loop-attribute l = Wrote (flat_map attribute_text (take l.attribute-index l.path)) l.initial.writer l.writer
