-- The parts of a listing.
use Rattle.std.specs.Prelude.{ℕ, List, [], ◌∷◌, ◌++◌}
use Rattle.features.specs.Graphs.{Graph}
use Rattle.features.specs.Listing.{little, entry, along, one_if, count, record_of}
use Rattle.tables.specs.declared.node.Node.{Node}
use Rattle.tables.specs.Views.{edge_of}

-- the attributes of a row, rising
unfoldable pub entries_of : Node → List ℕ
entries_of r = along (λ a. entry a (edge_of r a)) 0 32

-- the bytes of a row
unfoldable pub bytes_of : Node → List ℕ
bytes_of r = little 8 r.value ++ (count (λ a. one_if (edge_of r a)) 0 32 ∷ []) ++ entries_of r

-- the bytes of the first k nodes
unfoldable pub first_nodes : Graph → ℕ → List ℕ
first_nodes g k = along (record_of g) 0 k

-- the bytes of the first k variables
unfoldable pub first_variables : Graph → ℕ → List ℕ
first_variables g k = along (λ x. little 2 (g.root x)) 0 k
