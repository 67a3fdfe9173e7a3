-- A table before and after it grew.
use Rattle.std.specs.Prelude.{◌≡◌, ℕ, ◌+◌, ◌<◌, ◌≤◌, ◌⊎◌, List, length, vec_len}
use Rattle.std.proofs.Math.Option.{some}
use Rattle.growth.specs.Changes.{NewNode, Grown}
use Rattle.tables.specs.declared.table.Table.{Table}
use Rattle.tables.specs.Views.{graph, values, Sound}

-- the attribute a of node n led to r, and nothing changed, or it was added and leads to the new node r
pub record Stepped (v n a : ℕ) (t u : Table) (r : ℕ) : Type 0 where
  pub stepped : (((graph t).edge n a ≡ some r) × (u ≡ t)) ⊎ (NewNode v n a (graph t) (values t) (graph u) (values u) × (r ≡ vec_len t.rows))
  pub inside : r < vec_len u.rows
  pub least : vec_len t.rows ≤ vec_len u.rows
  pub most : vec_len u.rows ≤ vec_len t.rows + 1
  pub vars : vec_len u.roots ≡ vec_len t.roots
  pub roots : u.roots ≡ t.roots
  pub sound : Sound u

-- from node n the path was followed to r, and the nodes that it lacked were added
pub record GrownTable (v n : ℕ) (path : List ℕ) (t u : Table) (r : ℕ) : Type 0 where
  pub grown : Grown v (graph t) (values t) n path (graph u) (values u) r
  pub inside : r < vec_len u.rows
  pub least : vec_len t.rows ≤ vec_len u.rows
  pub most : vec_len u.rows ≤ vec_len t.rows + length path
  pub vars : vec_len u.roots ≡ vec_len t.roots
  pub roots : u.roots ≡ t.roots
  pub sound : Sound u
