use mathlib.Core.List.{flat_map}
use Rattle.std.proofs.Common.{take}
use Rattle.buffers.specs.Writing.{Wrote}
use Rattle.printing.specs.Texts.{hex_byte}
use Rattle.printing.proofs.hexadecimal.put_line.Given as goal

abbrev pub invariant-loop-byte : goal.invariant-loop-byte
invariant-loop-byte l = Wrote (flat_map hex_byte (take l.byte-index l.bytes)) l.initial.writer l.writer
