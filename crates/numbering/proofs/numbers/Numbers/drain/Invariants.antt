use Rattle.std.proofs.Common.{ℕ, ◌+◌, ◌-◌, ◌≤◌, length, vec_len}
use Rattle.features.specs.Numbering.{by_attribute}
use Rattle.tables.specs.Views.{graph}
use Rattle.queue.specs.Waiting.{waiting, capacity}
use Rattle.numbering.specs.Frontier.{Underway}
use Rattle.numbering.proofs.numbers.Numbers.drain.Given as goal

-- v rows were visited
abbrev pub invariant-loop-row : goal.invariant-loop-row
invariant-loop-row l = (v : ℕ) × Underway (graph l.table) (by_attribute v 0) v l.self (waiting l.queue) × (272 ≤ capacity l.queue)

abbrev pub decreases-loop-row : goal.decreases-loop-row
decreases-loop-row l = 272 + length (waiting l.queue) - vec_len l.self.listed
