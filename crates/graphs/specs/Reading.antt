-- What is asked of bytes that are read as a listing, in order, and the first of it that fails.
use Rattle.std.specs.Prelude.{◌≡◌, ℕ, suc, ◌+◌, ◌*◌, ◌<◌, ◌≤◌, true, List, length, ◌≢◌}
use Rattle.kinds.specs.Meaning.{Meaning}
use Rattle.features.specs.Graphs.{Graph}
use Rattle.features.specs.Order.{InOrder}
use Rattle.features.specs.Bytes.{Written}
use Rattle.graphs.specs.Listings.{node_count, variable_count, table_place, root_at, value_at, count_at, attribute_at, target_at, start}
use Rattle.graphs.specs.declared.misread.Misread.{Misread}
use Rattle.graphs.specs.declared.misread.Misread.TheVariants.{Short, Counts, RecordPasses, RecordsEnd, NoValue, Attributes, TargetOutside, VariableOutside, LeafBranches, NotInOrder}

-- the counts are within the limits and say where each part begins
pub record Counted (bs : List ℕ) : Type 0 where
  pub long : 8 ≤ length bs
  pub nodes : node_count bs ≤ 256
  pub variables : variable_count bs ≤ 64
  pub whole : table_place bs + 2 * variable_count bs + 8 ≡ length bs

-- record k ends before the variables' nodes begin
abbrev pub Fits : List ℕ → ℕ → Type 0
Fits bs k = start bs (suc k) ≤ table_place bs

-- its value is one of the kind
abbrev pub Valued : Meaning → List ℕ → ℕ → Type 0
Valued m bs k = m.value (value_at bs (start bs k)) ≡ true

-- the attributes of a record at a place rise, and none passes 31
abbrev pub Rising : List ℕ → ℕ → Type 0
Rising bs place =
    (i : ℕ) → i < count_at bs place →
    (attribute_at bs place i < 32) × ((j : ℕ) → j < i → attribute_at bs place j < attribute_at bs place i)

-- they lead to nodes
abbrev pub TargetsInside : List ℕ → ℕ → Type 0
TargetsInside bs place = (i : ℕ) → i < count_at bs place → target_at bs place i < node_count bs

-- a leaf has none
abbrev pub LeafBare : Meaning → List ℕ → ℕ → Type 0
LeafBare m bs place = m.leaf (value_at bs place) ≡ true → count_at bs place ≡ 0

pub record Right (m : Meaning) (bs : List ℕ) (k : ℕ) : Type 0 where
  pub fits : Fits bs k
  pub valued : Valued m bs k
  pub rising : Rising bs (start bs k)
  pub targets : TargetsInside bs (start bs k)
  pub bare : LeafBare m bs (start bs k)

-- the counts are right, and so is each record before k
pub record RightBelow (m : Meaning) (bs : List ℕ) (k : ℕ) : Type 0 where
  pub counted : Counted bs
  pub records : (j : ℕ) → j < k → Right m bs j

-- record k is the next
pub record Reached (m : Meaning) (bs : List ℕ) (k : ℕ) : Type 0 where
  pub below : RightBelow m bs k
  pub inside : k < node_count bs

-- all records are right and end where the variables' nodes begin, and the variables before x are on nodes
pub record RootsBelow (m : Meaning) (bs : List ℕ) (x : ℕ) : Type 0 where
  pub below : RightBelow m bs (node_count bs)
  pub ends : start bs (node_count bs) ≡ table_place bs
  pub roots : (y : ℕ) → y < x → root_at bs y < node_count bs

-- the ground of each refusal: what it names fails, and all that is asked before holds
abbrev pub Ground : Meaning → List ℕ → Misread → Type 0
Ground m bs Short = length bs < 8
Ground m bs Counts = (8 ≤ length bs) × (Counted bs → ⊥)
Ground m bs (RecordPasses k) = Reached m bs k × (Fits bs k → ⊥)
Ground m bs (NoValue k) = Reached m bs k × Fits bs k × (Valued m bs k → ⊥)
Ground m bs (Attributes k) = Reached m bs k × Fits bs k × Valued m bs k × (Rising bs (start bs k) → ⊥)
Ground m bs (TargetOutside k) =
    Reached m bs k × Fits bs k × Valued m bs k × Rising bs (start bs k) × (TargetsInside bs (start bs k) → ⊥)
Ground m bs (LeafBranches k) =
    Reached m bs k × Fits bs k × Valued m bs k × Rising bs (start bs k) × TargetsInside bs (start bs k)
    × (LeafBare m bs (start bs k) → ⊥)
Ground m bs (RecordsEnd n) =
    RightBelow m bs (node_count bs) × (n ≡ node_count bs) × (start bs (node_count bs) ≢ table_place bs)
Ground m bs (VariableOutside x) = RootsBelow m bs x × (x < variable_count bs) × (root_at bs x < node_count bs → ⊥)
Ground m bs NotInOrder = (g : Graph) × Written m bs g × (InOrder g → ⊥)

-- the number of each refusal
abbrev pub number_of : Misread → ℕ
number_of Short = 13
number_of Counts = 14
number_of (RecordPasses k) = 15
number_of (RecordsEnd n) = 15
number_of (NoValue k) = 16
number_of (Attributes k) = 17
number_of (TargetOutside k) = 18
number_of (VariableOutside x) = 18
number_of (LeafBranches k) = 19
number_of NotInOrder = 20

-- the bytes of a graph in listing order give no ground to be refused
abbrev pub ListingsAreRead : Type 0
ListingsAreRead =
    (m : Meaning) (bs : List ℕ) (g : Graph) → Written m bs g → InOrder g →
    (e : Misread) → Ground m bs e → ⊥
