use Rattle.buffers.specs.Writing.{Wrote}
use Rattle.tables.specs.Views.{graph}
use Rattle.listings.specs.Parts.{first_variables}
use Rattle.listings.proofs.writer.put_variables.Given as goal

abbrev pub invariant-loop-root : goal.invariant-loop-root
invariant-loop-root l = Wrote (first_variables (graph l.table) l.root-index) l.initial.writer l.writer
