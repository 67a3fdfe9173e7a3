use Rattle.std.proofs.Common.{◌≡◌, ℕ, List, ◌++◌}
use Rattle.buffers.specs.Writing.{Wrote}
use Rattle.listings.specs.Parts.{entries_of}
use Rattle.listings.proofs.Entries.{only}
use Rattle.listings.proofs.parts.put_entries.Given as goal

-- some bytes were put, and with the entries of the attributes that are left they are those of the node
abbrev pub invariant-loop-attribute : goal.invariant-loop-attribute
invariant-loop-attribute l =
    (done : List ℕ) × Wrote done l.initial.writer l.writer × (done ++ entries_of (only l.node l.attribute-iterator.left) ≡ entries_of l.node)
    × (l.attribute-iterator.node.now ≡ l.node)
