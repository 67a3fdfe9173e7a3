use Rattle.std.proofs.Common.{◌≤◌, vec_len}
use Rattle.features.specs.Numbering.{by_variable}
use Rattle.tables.specs.Views.{graph}
use Rattle.graphs.specs.Mentioned.{NumberedUpTo}
use Rattle.graphs.proofs.ordering.numbered_by_variables.Given as goal

abbrev pub invariant-loop-root : goal.invariant-loop-root
invariant-loop-root l = NumberedUpTo (graph l.table) (by_variable l.root-index) l.next × (l.next ≤ vec_len l.table.rows)
