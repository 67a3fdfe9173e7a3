use Rattle.std.proofs.Common.{◌≤◌}
use Rattle.arrayvec.specs.ArrayVec.{array_vec_len}
use Rattle.features.specs.Numbering.{by_attribute}
use Rattle.graphs.specs.Held.{graph_of}
use Rattle.comparing.specs.Images.{MappedUpTo}
use Rattle.comparing.proofs.maps.maps.Given as goal

abbrev pub invariant-loop-node : goal.invariant-loop-node
invariant-loop-node g l =
    MappedUpTo (graph_of l.from) (graph_of l.into) (by_attribute l.node 0) (array_vec_len l.images) l.images.items × (array_vec_len l.images ≤ (graph_of l.from).nodes)
