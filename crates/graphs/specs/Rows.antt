-- Rows and roots that hold what stands in the bytes.
use Rattle.std.specs.Prelude.{◌≡◌, ℕ, ◌+◌, ◌-◌, ◌*◌, ◌^◌, ◌<◌, true, List, [], ◌∷◌, ◌++◌, length, take, drop, slice_index}
use Rattle.std.proofs.Math.Option.{some, none}
use Rattle.kinds.specs.Meaning.{Meaning}
use Rattle.features.specs.Listing.{little, entry, along, one_if, count}
use Rattle.tables.specs.declared.node.Node.{Node}
use Rattle.tables.specs.Views.{row, edge_of}
use Rattle.graphs.specs.Listings.{node_count, variable_count, table_place, value_at, count_at, target_at, start}
use Rattle.graphs.specs.Reading.{Counted}
use Rattle.graphs.specs.declared.trailer.Trailer.{Trailer}

-- the last eight bytes, read
pub record TrailerOf (bs : List ℕ) (t : Trailer) : Type 0 where
  pub counted : Counted bs
  pub nodes : t.nodes ≡ node_count bs
  pub variables : t.variables ≡ variable_count bs
  pub place : t.place ≡ table_place bs
  pub small : t.place < 2 ^ 32
  pub bytes : drop (length bs - 8) bs ≡ little 2 (node_count bs) ++ little 2 (variable_count bs) ++ little 4 (table_place bs)

-- the record of a row
abbrev pub record_of_row : Node → List ℕ
record_of_row r =
    little 8 r.value ++ (count (λ a. one_if (edge_of r a)) 0 32 ∷ []) ++ along (λ a. entry a (edge_of r a)) 0 32

-- the row of the record at a place
pub record RowAt (bs : List ℕ) (place : ℕ) (r : Node) : Type 0 where
  pub bytes : record_of_row r ≡ take (9 + 3 * count_at bs place) (drop place bs)
  pub value : r.value ≡ value_at bs place
  pub edges : (a t : ℕ) → edge_of r a ≡ some t → (i : ℕ) × (i < count_at bs place) × (target_at bs place i ≡ t)

-- a row as a feature graph of so many nodes has it
pub record RowRight (m : Meaning) (nodes : ℕ) (r : Node) : Type 0 where
  pub valued : m.value r.value ≡ true
  pub inside : (a t : ℕ) → edge_of r a ≡ some t → t < nodes
  pub bare : (a : ℕ) → m.leaf r.value ≡ true → edge_of r a ≡ none

-- the first k rows are those of the first k records
pub record RowsOf (m : Meaning) (bs : List ℕ) (rows : List Node) (k : ℕ) : Type 0 where
  pub bytes : along (λ n. record_of_row (row rows n)) 0 k ≡ take (start bs k) bs
  pub right : (n : ℕ) → n < k → RowRight m (node_count bs) (row rows n)

-- the first k roots are the first k variables' nodes
pub record RootsOf (bs : List ℕ) (roots : List ℕ) (k : ℕ) : Type 0 where
  pub bytes : along (λ x. little 2 (slice_index roots x)) 0 k ≡ take (2 * k) (drop (table_place bs) bs)
  pub inside : (x : ℕ) → x < k → slice_index roots x < node_count bs
