use Rattle.std.proofs.Common.{◌≤◌, vec_len}
use Rattle.features.specs.Numbering.{by_attribute}
use Rattle.tables.specs.Views.{graph}
use Rattle.graphs.specs.Mentioned.{NumberedUpTo}
use Rattle.graphs.proofs.ordering.breadth_first.Given as goal

abbrev pub invariant-loop-node : goal.invariant-loop-node
invariant-loop-node l = NumberedUpTo (graph l.table) (by_attribute l.node 0) l.next × (l.next ≤ vec_len l.table.rows)
