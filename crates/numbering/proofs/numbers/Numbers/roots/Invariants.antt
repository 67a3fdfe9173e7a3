use Rattle.std.proofs.Common.{◌≡◌}
use Rattle.features.specs.Numbering.{by_variable}
use Rattle.tables.specs.Views.{graph}
use Rattle.queue.specs.Waiting.{waiting, capacity}
use Rattle.numbering.specs.Frontier.{Underway}
use Rattle.numbering.proofs.numbers.Numbers.roots.Given as goal

abbrev pub invariant-loop-x : goal.invariant-loop-x
invariant-loop-x l = Underway (graph l.table) (by_variable l.x) 0 l.self (waiting l.queue) × (capacity l.queue ≡ capacity l.initial.queue)
