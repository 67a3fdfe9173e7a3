use Rattle.std.proofs.Common.{◌≡◌, ℕ, ◌≤◌, vec_len, vec_items}
use Rattle.features.specs.Numbering.{by_attribute}
use Rattle.tables.specs.Views.{row, graph}
use Rattle.graphs.specs.Mentioned.{NumberedUpTo, LeftFrom}
use Rattle.graphs.proofs.ordering.numbered_by_attributes.Given as goal

-- a is the first attribute that may be left
abbrev pub invariant-loop-target : goal.invariant-loop-target
invariant-loop-target l =
    (a : ℕ) × NumberedUpTo (graph l.table) (by_attribute l.node a) l.next × LeftFrom l.target-iterator.node.now.present l.target-iterator.left a
    × (l.next ≤ vec_len l.table.rows) × (l.numbered ≤ l.next) × (l.target-iterator.node.now ≡ row (vec_items l.table.rows) l.node)
