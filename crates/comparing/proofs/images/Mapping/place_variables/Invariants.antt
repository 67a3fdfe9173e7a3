use Rattle.std.proofs.Common.{◌≡◌, ◌≤◌, length, drop, vec_items, vec_len}
use Rattle.arrayvec.specs.ArrayVec.{array_vec_len}
use Rattle.features.specs.Numbering.{by_variable}
use Rattle.graphs.specs.Held.{graph_of}
use Rattle.comparing.specs.Images.{MappedUpTo}
use Rattle.comparing.proofs.images.Mapping.place_variables.Given as goal

abbrev pub invariant-loop-node : goal.invariant-loop-node
invariant-loop-node l = record {
  mapped : MappedUpTo (graph_of l.self.from.now) (graph_of l.self.into.now) (by_variable (length l.yielded)) (array_vec_len l.images) l.images.items;
  few : length l.yielded ≤ vec_len l.self.from.now.table.roots;
  most : array_vec_len l.images ≤ (graph_of l.self.from.now).nodes;
  nodes_left : l.node-iterator.a.rest.now ≡ drop (length l.yielded) (vec_items l.self.from.now.table.roots);
  images_left : l.node-iterator.b.rest.now ≡ drop (length l.yielded) (vec_items l.self.into.now.table.roots);
}
