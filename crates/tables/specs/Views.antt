-- The graph that rows show.
use Rattle.std.specs.Prelude.{◌≡◌, ℕ, ◌<◌, ◌≤◌, cond, ◌&&◌, List, [], vec_items, vec_len, vec_capacity, nat_lt, slice_index, slice_index_or}
use Rattle.std.proofs.Math.Option.{Option, some, none}
use Rattle.kinds.specs.Masks.{has}
use Rattle.features.specs.Graphs.{Graph}
use Rattle.tables.specs.declared.node.Node.{Node}
use Rattle.tables.specs.declared.table.Table.{Table}

abbrev pub blank : Node
blank = record { value = 0; present = 0; targets = [] }

-- the node in row n
abbrev pub row : List Node → ℕ → Node
row rows n = slice_index_or rows n blank

-- where an attribute leads, where it is present
abbrev pub edge_of : Node → ℕ → Option ℕ
edge_of r a = cond (nat_lt a 32 && has r.present a) (some (slice_index r.targets a)) none

-- the graph of a table: its rows, and the variables' nodes
abbrev pub graph : Table → Graph
graph t = record {
  nodes = vec_len t.rows;
  value = λ n. (row (vec_items t.rows) n).value;
  edge = λ n a. edge_of (row (vec_items t.rows) n) a;
  vars = vec_len t.roots;
  root = λ x. slice_index (vec_items t.roots) x;
}

-- the table has room for all the rows and roots that it can come to have, and every attribute and every variable leads to a row
pub record Sound (t : Table) : Type 0 where
  pub rows : vec_len t.rows ≤ 272
  pub row_room : 272 ≤ vec_capacity t.rows
  pub roots : vec_len t.roots ≤ 64
  pub root_room : 64 ≤ vec_capacity t.roots
  pub edges_inside : (n a k : ℕ) → n < vec_len t.rows → (graph t).edge n a ≡ some k → k < vec_len t.rows
  pub roots_inside : (x : ℕ) → x < vec_len t.roots → (graph t).root x < vec_len t.rows

-- what stands on the nodes of a table that has no contradiction
abbrev pub values : Table → ℕ → Option ℕ
values t n = some ((graph t).value n)
