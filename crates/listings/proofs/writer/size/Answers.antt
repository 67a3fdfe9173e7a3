use Rattle.std.proofs.Common.{arith}
use Rattle.tables.specs.Views.{graph}
use Rattle.listings.proofs.Lengths.{first_nodes_bound, length_parts}
use Rattle.listings.proofs.writer.size.Goals as goal

pub overflow_add-result : goal.overflow_add-result
overflow_add-result c = let t = c.args.table.now in omega (arith, first_nodes_bound (graph t) (graph t).nodes, c.requires.rows, c.requires.roots)

pub overflow_add-result-2 : goal.overflow_add-result-2
overflow_add-result-2 c = let t = c.args.table.now in omega (arith, first_nodes_bound (graph t) (graph t).nodes, c.requires.rows, c.requires.roots)

pub returns : goal.returns
returns c = omega (arith, length_parts (graph c.args.table.now))
