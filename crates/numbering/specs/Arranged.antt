-- A table that holds the graph of the numbers of another.
use Rattle.std.specs.Prelude.{◌≡◌, ℕ}
use Rattle.features.specs.Graphs.{Graph}
use Rattle.tables.specs.declared.table.Table.{Table}
use Rattle.tables.specs.Views.{graph}
use Rattle.numbering.specs.declared.numbers.Numbers.{Numbers}
use Rattle.numbering.specs.Frontier.{in_numbers}

-- row k is the node with the number k, its targets by their numbers
pub record Moved (g : Graph) (n : Numbers) (t : Table) (k : ℕ) : Type 0 where
  pub value : (graph t).value k ≡ (in_numbers g n).value k
  pub edges : (a : ℕ) → (graph t).edge k a ≡ (in_numbers g n).edge k a
