use Rattle.std.proofs.Common.{◌≡◌, ℕ, List, ◌++◌}
use Rattle.std.specs.Slice.Iter.{chunks_rest, chunks_size}
use Rattle.buffers.specs.Writing.{Wrote}
use Rattle.printing.specs.Texts.{hexadecimal}
use Rattle.printing.proofs.hexadecimal.put_hexadecimal.Given as goal

-- some lines were put, and with those of the bytes that are left they are all
abbrev pub invariant-loop-line : goal.invariant-loop-line
invariant-loop-line l =
    goal.iterator-loop-line.can_next l.line-iterator
    × goal.iterator-loop-line.is_finite l.line-iterator
    × (chunks_size l.line-iterator ≡ 32)
    × (done : List ℕ) × Wrote done l.initial.writer l.writer × (done ++ hexadecimal (chunks_rest l.line-iterator) ≡ hexadecimal l.bytes)
