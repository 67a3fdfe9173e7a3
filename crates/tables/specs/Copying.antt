-- A table that holds the graph of another.
use Rattle.std.specs.Prelude.{◌≡◌, ℕ, ◌<◌, vec_items, vec_len}
use Rattle.tables.specs.declared.table.Table.{Table}
use Rattle.tables.specs.Views.{row, graph, Sound}

-- u has the nodes and variables of t, each as it is in t
pub record Copied (t u : Table) : Type 0 where
  pub used : vec_len u.rows ≡ vec_len t.rows
  pub rows : (n : ℕ) → n < vec_len t.rows → row (vec_items u.rows) n ≡ row (vec_items t.rows) n
  pub vars : vec_len u.roots ≡ vec_len t.roots
  pub roots : (x : ℕ) → x < vec_len t.roots → (graph u).root x ≡ (graph t).root x
  pub sound : Sound u
