use Rattle.buffers.specs.Writing.{Wrote}
use Rattle.tables.specs.Views.{graph}
use Rattle.listings.specs.Parts.{first_nodes}
use Rattle.listings.proofs.writer.put_nodes.Given as goal

abbrev pub invariant-loop-node : goal.invariant-loop-node
invariant-loop-node l = Wrote (first_nodes (graph l.table) l.node-index) l.initial.writer l.writer
