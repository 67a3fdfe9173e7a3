-- What stands where in bytes that are read as a listing.
use Rattle.std.specs.Prelude.{ℕ, zero, suc, ◌+◌, ◌-◌, ◌*◌, List, length, take, drop, slice_index}
use Rattle.features.specs.Bytes.{from_little}

-- the number in the k bytes at a place
abbrev pub field : List ℕ → ℕ → ℕ → ℕ
field bs place k = from_little (take k (drop place bs))

-- the last eight bytes: how many nodes and variables there are, and where the variables' nodes stand
abbrev pub node_count : List ℕ → ℕ
node_count bs = field bs (length bs - 8) 2

abbrev pub variable_count : List ℕ → ℕ
variable_count bs = field bs (length bs - 6) 2

abbrev pub table_place : List ℕ → ℕ
table_place bs = field bs (length bs - 4) 4

-- the node of a variable
abbrev pub root_at : List ℕ → ℕ → ℕ
root_at bs x = field bs (table_place bs + 2 * x) 2

-- the parts of a record that stands at a place: the value of its node, how many attributes it has, each of them and where it leads
abbrev pub value_at : List ℕ → ℕ → ℕ
value_at bs place = field bs place 8

abbrev pub count_at : List ℕ → ℕ → ℕ
count_at bs place = slice_index bs (place + 8)

abbrev pub attribute_at : List ℕ → ℕ → ℕ → ℕ
attribute_at bs place i = slice_index bs (place + 9 + 3 * i)

abbrev pub target_at : List ℕ → ℕ → ℕ → ℕ
target_at bs place i = field bs (place + 9 + 3 * i + 1) 2

-- how long the record is
abbrev pub record_length : List ℕ → ℕ → ℕ
record_length bs place = 9 + 3 * count_at bs place

-- the first record stands at the start, and each other where the one before it ends
abbrev pub start : List ℕ → ℕ → ℕ
start bs zero = 0
start bs (suc k) = start bs k + 9 + 3 * count_at bs (start bs k)
