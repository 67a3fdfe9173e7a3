-- How long a listing is, that it determines its graph, and of which graphs there are listings to be read.
use Rattle.std.specs.Prelude.{◌≡◌, ℕ, ◌+◌, ◌*◌, ◌^◌, ◌<◌, ◌≤◌, List, [], ◌∷◌, length, All}
use Rattle.std.proofs.Math.Option.{some}
use Rattle.kinds.specs.Meaning.{Meaning}
use Rattle.features.specs.Graphs.{Graph, Feature, SameGraph}
use Rattle.features.specs.Listing.{one_if, count, written}

-- the number of which these are the bytes, the lowest first
abbrev pub from_little : List ℕ → ℕ
from_little [] = 0
from_little (b ∷ rest) = b + 256 * from_little rest

-- how large a graph can be
pub record WithinLimits (g : Graph) : Type 0 where
  pub few_nodes : g.nodes ≤ 256
  pub few_vars : g.vars ≤ 64
  pub values : (n : ℕ) → n < g.nodes → g.value n < 2 ^ 64
  pub edges : (n a t : ℕ) → n < g.nodes → g.edge n a ≡ some t → (a < 32) × (t < g.nodes)
  pub roots : (x : ℕ) → x < g.vars → g.root x < g.nodes

-- the bytes are those of g, a feature graph within the limits
pub record Written (m : Meaning) (bs : List ℕ) (g : Graph) : Type 0 where
  pub within : WithinLimits g
  pub feature : Feature m g
  pub bytes : bs ≡ written g

-- the number of attributes of a node
abbrev pub attributes_of : Graph → ℕ → ℕ
attributes_of g n = count (λ a. one_if (g.edge n a)) 0 32

-- for each node a value, a count and its attributes; then the variables' nodes and three numbers
abbrev pub ListingLength : Type 0
ListingLength = (g : Graph) → length (written g) ≡ count (λ n. 8 + 1 + 3 * attributes_of g n) 0 g.nodes + 2 * g.vars + 8

-- bytes are numbers below 256
abbrev pub ListingIsBytes : Type 0
ListingIsBytes = (g : Graph) → All (λ b. b < 256) (written g)

abbrev pub ListingBounded : Type 0
ListingBounded = (g : Graph) → WithinLimits g → length (written g) ≤ 27016

-- graphs with the same bytes are the same
abbrev pub BytesDetermineGraph : Type 0
BytesDetermineGraph = (g h : Graph) → WithinLimits g → WithinLimits h → written g ≡ written h → SameGraph g h
