-- What a workspace says of its rows: which row stands for each, and what stands on it.
use Rattle.std.specs.Prelude.{◌≡◌, ℕ, ◌<◌, true, false, cond, List, Some, None, vec_items, vec_len, vec_capacity, Option as Maybe, ◌≢◌, slice_index, slice_index_or}
use Rattle.std.proofs.Math.Option.{Option, some, none, map}
use mathlib.Core.List.{Memᴰ}
use Rattle.kinds.specs.Meaning.{Meaning}
use Rattle.tables.specs.declared.table.Table.{Table}
use Rattle.tables.specs.Views.{graph}
use Rattle.joining.specs.declared.workspace.Pair.{Pair}
use Rattle.joining.specs.declared.workspace.Workspace.{Workspace}

-- the representative of row x
abbrev pub rep : Workspace → ℕ → ℕ
rep w x = slice_index (vec_items w.class) x

-- what stands on row n: its value, or nothing where no value is at or below all that came to it
abbrev pub state : Workspace → ℕ → Option ℕ
state w n = cond (slice_index_or (vec_items w.void) n false) none (some ((graph w.table).value n))

-- an answer of the code, taken as what stands on a row
abbrev pub standing : Maybe ℕ → Option ℕ
standing (Some v) = some v
standing None = none

-- the two rows wait to be joined
abbrev pub Waits : List Pair → ℕ → ℕ → Type 0
Waits pairs u v = Memᴰ (record { left = u; right = v }) pairs

-- what stands on a row in use is a value of the kind
abbrev pub Valued : Meaning → Workspace → Type 0
Valued m w = (x v : ℕ) → x < vec_len w.table.rows → state w x ≡ some v → m.value v ≡ true

-- only the attributes of nodes have changed
pub record Edged (t t' : Table) : Type 0 where
  pub used : vec_len t'.rows ≡ vec_len t.rows
  pub room : vec_capacity t'.rows ≡ vec_capacity t.rows
  pub roots : t'.roots ≡ t.roots
  pub values : (x : ℕ) → (graph t').value x ≡ (graph t).value x

-- on row s stands o, and nothing else has changed
pub record Put (s : ℕ) (o : Option ℕ) (w w' : Workspace) : Type 0 where
  pub used : vec_len w'.table.rows ≡ vec_len w.table.rows
  pub roots : w'.table.roots ≡ w.table.roots
  pub edges : (x a : ℕ) → (graph w'.table).edge x a ≡ (graph w.table).edge x a
  pub classes : w'.class ≡ w.class
  pub joins : w'.joins ≡ w.joins
  pub others : (x : ℕ) → (x ≢ s) → state w' x ≡ state w x
  pub stands : state w' s ≡ o

-- the nodes are as many as they were, and the variables lead where they led
pub record SameTable (t t' : Table) : Type 0 where
  pub used : vec_len t'.rows ≡ vec_len t.rows
  pub roots : t'.roots ≡ t.roots

-- every attribute and every variable leads to a representative
pub record Resolved (w w' : Workspace) : Type 0 where
  pub used : vec_len w'.table.rows ≡ vec_len w.table.rows
  pub vars : vec_len w'.table.roots ≡ vec_len w.table.roots
  pub classes : w'.class ≡ w.class
  pub voids : w'.void ≡ w.void
  pub joins : w'.joins ≡ w.joins
  pub values : (n : ℕ) → (graph w'.table).value n ≡ (graph w.table).value n
  pub edges : (n a : ℕ) → n < vec_len w.table.rows → (graph w'.table).edge n a ≡ map (rep w) ((graph w.table).edge n a)
  pub roots : (x : ℕ) → x < vec_len w.table.roots → (graph w'.table).root x ≡ rep w ((graph w.table).root x)
