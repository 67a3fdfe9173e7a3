use Rattle.std.proofs.Common.{◌≡◌, ℕ, ◌+◌, vec_items}
use Rattle.features.specs.Numbering.{by_attribute}
use Rattle.tables.specs.Views.{row as row_of, graph}
use Rattle.queue.specs.Waiting.{waiting, capacity}
use Rattle.numbering.specs.Given.{ord}
use Rattle.numbering.specs.Frontier.{Underway}
use Rattle.numbering.proofs.Visiting.{Left}
use Rattle.numbering.proofs.numbers.Numbers.visit.Given as goal

-- the attributes below a were visited
abbrev pub invariant-loop-attribute : goal.invariant-loop-attribute
invariant-loop-attribute l =
    (a : ℕ) × Underway (graph l.table) (by_attribute l.giver a) (l.giver + 1) l.self (waiting l.queue)
    × (ord l.self l.giver ≡ l.row) × Left (row_of (vec_items l.table.rows) l.row).present l.attribute-iterator.left a
    × (l.attribute-iterator.node.now ≡ row_of (vec_items l.table.rows) l.row) × (capacity l.queue ≡ capacity l.initial.queue)
