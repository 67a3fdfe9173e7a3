use Rattle.std.proofs.Common.{◌≡◌, ℕ, ◌<◌, ◌≤◌, get_or, vec_items}
use Rattle.arrayvec.specs.ArrayVec.{array_vec_len}
use Rattle.features.specs.Numbering.{by_attribute}
use Rattle.tables.specs.Views.{row}
use Rattle.graphs.specs.Held.{graph_of}
use Rattle.graphs.specs.Mentioned.{LeftFrom}
use Rattle.comparing.specs.Images.{MappedUpTo}
use Rattle.comparing.proofs.images.Mapping.place_targets.Given as goal

-- a is the first attribute that may be left
abbrev pub invariant-loop-attribute : goal.invariant-loop-attribute
invariant-loop-attribute l =
    (a : ℕ) × MappedUpTo (graph_of l.self.from.now) (graph_of l.self.into.now) (by_attribute l.node a) (array_vec_len l.images) l.images.items
    × LeftFrom l.attribute-iterator.node.now.present l.attribute-iterator.left a
    × (array_vec_len l.images ≤ (graph_of l.self.from.now).nodes) × (l.node < array_vec_len l.images)
    × (l.image ≡ row (vec_items l.self.into.now.table.rows) (get_or l.images.items l.node 0))
    × (l.attribute-iterator.node.now ≡ row (vec_items l.self.from.now.table.rows) l.node)
