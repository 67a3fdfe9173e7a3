use Rattle.std.proofs.Common.{◌≡◌, ◌+◌, ◌≤◌, length, vec_items}
use lib.Count.{ones}
use Rattle.queue.specs.Waiting.{waiting, capacity}
use Rattle.tables.specs.Views.{graph, row}
use Rattle.joining.specs.Workspaces.{Edged, Waits}
use Rattle.joining.proofs.Taking.{Taking}
use Rattle.joining.proofs.attributes.take_attributes.Given as goal

abbrev pub invariant-loop-attribute : goal.invariant-loop-attribute
invariant-loop-attribute l =
    Edged l.initial.table l.table
    × Taking l.attribute-iterator.left (graph l.initial.table).edge (Waits (waiting l.initial.queue)) l.to l.from (graph l.table).edge (Waits (waiting l.queue))
    × (length (waiting l.queue) + ones l.attribute-iterator.left ≤ length (waiting l.initial.queue) + 32)
    × (capacity l.queue ≡ capacity l.initial.queue)
    × (l.attribute-iterator.node.now ≡ row (vec_items l.initial.table.rows) l.from)
