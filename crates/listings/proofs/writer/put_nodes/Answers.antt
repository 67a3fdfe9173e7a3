use Rattle.std.proofs.Common.{◌<◌, List, length, sym, ap, arith}
use Rattle.tables.specs.declared.node.Node.{Node}
use Rattle.tables.specs.Views.{row, graph}
use Rattle.buffers.proofs.Runs.{wrote_none, wrote_same}
use Rattle.listings.specs.Parts.{bytes_of}
use Rattle.listings.proofs.Lengths.{no_nodes, node_fits, first_nodes_bound, wrote_node}
use Rattle.listings.proofs.writer.put_nodes.Goals as goal

pub loop-node-init : goal.loop-node-init
loop-node-init c = wrote_same (sym (no_nodes (graph c.args.table.now))) (wrote_none c.args.writer.now)

pub put_node-requires : goal.put_node-requires
put_node-requires c =
    let t = c.args.table.now in
    let i = c.loop-node.node-index in
    let inside : i < (graph t).nodes = omega arith in
    let same = ap (λ (xs : List Node). length (bytes_of (row xs i))) c.deref-node-items.ensures.value in
    omega (arith, same, node_fits t i inside, first_nodes_bound (graph t) (graph t).nodes)

pub loop-node-preserved : goal.loop-node-preserved
loop-node-preserved c =
    let i = c.loop-node.node-index in
    let read = ap (λ (xs : List Node). row xs i) c.deref-node-items.ensures.value in
    wrote_node c.args.table.now i c.loop-node.invariant (wrote_same (ap bytes_of read) c.put_node.ensures)
