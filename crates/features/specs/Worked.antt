-- A worked graph with cycles: seven statements about four variables, and the graph that they describe.
use Rattle.std.specs.Prelude.{◌≡◌, ℕ, List, [], ◌∷◌, ◌++◌, slice_index, slice_index_or}
use Rattle.std.proofs.Math.Option.{Option, some, none}
use Rattle.kinds.specs.Meaning.{Meaning, Lawful}
use Rattle.features.specs.Terms.{Statement, equals, apart, only, ◌▸◌}
use Rattle.features.specs.Graphs.{Graph, Denotes, Model}
use Rattle.features.specs.Order.{InOrder}
use Rattle.features.specs.Listing.{count, written}
use Rattle.features.specs.Bytes.{attributes_of}
use Rattle.features.specs.Holding.{Holds}

abbrev pub said : List Statement
said =
    equals (only 3 ▸ 1) (only 1 ▸ 3 ▸ 5)
    ∷ equals (only 3) (only 3 ▸ 3)
    ∷ equals (only 1 ▸ 3) (only 2 ▸ 0 ▸ 0 ▸ 1 ▸ 4)
    ∷ equals (only 2) (only 0)
    ∷ equals (only 0 ▸ 1) (only 0 ▸ 2)
    ∷ equals (only 0) (only 0 ▸ 0 ▸ 0)
    ∷ apart (only 0 ▸ 0 ▸ 0 ▸ 1 ▸ 4) (only 3)
    ∷ []

-- where the attributes 0, 1, .. of each node lead
abbrev pub targets : List (List (Option ℕ))
targets =
    (some 3 ∷ some 4 ∷ some 4 ∷ [])
    ∷ (none ∷ none ∷ none ∷ some 5 ∷ [])
    ∷ (none ∷ some 6 ∷ none ∷ some 2 ∷ [])
    ∷ (some 0 ∷ [])
    ∷ (none ∷ none ∷ none ∷ none ∷ some 5 ∷ [])
    ∷ (none ∷ none ∷ none ∷ none ∷ none ∷ some 6 ∷ [])
    ∷ []
    ∷ []

-- the graph, with one value at every node
abbrev pub worked : ℕ → Graph
worked v = record { nodes = 7; value = λ n. v; edge = λ n a. slice_index_or (slice_index_or targets n []) a none; vars = 4; root = λ x. slice_index (0 ∷ 1 ∷ 0 ∷ 2 ∷ []) x }

abbrev pub WorkedHasNineAttributes : Type 0
WorkedHasNineAttributes = (v : ℕ) → count (attributes_of (worked v)) 0 7 ≡ 9

abbrev pub WorkedSatisfiesAll : Type 0
WorkedSatisfiesAll = (m : Meaning) → Lawful m → Model m 4 said (worked m.top)

-- nothing beyond what follows from the statements holds in it
abbrev pub WorkedHoldsWhatWasSaid : Type 0
WorkedHoldsWhatWasSaid = (m : Meaning) → Lawful m → Holds m (worked m.top) (apart (only 0 ▸ 0 ▸ 0 ▸ 1 ▸ 4) (only 3) ∷ []) 4 said

abbrev pub WorkedInOrder : Type 0
WorkedInOrder = (v : ℕ) → InOrder (worked v)

-- two terms that denote nothing
abbrev pub TwoTermsDenoteNothing : Type 0
TwoTermsDenoteNothing = (v n : ℕ) → (Denotes (worked v) (only 1 ▸ 3 ▸ 4) n → ⊥) × (Denotes (worked v) (only 3 ▸ 4) n → ⊥)

-- attribute 0 leads from the node of variable 0 to another, and from that one back
abbrev pub ThereAndBack : Type 0
ThereAndBack = (v n : ℕ) → Denotes (worked v) (only 0) n → Denotes (worked v) (only 2 ▸ 0 ▸ 0) n × (Denotes (worked v) (only 2 ▸ 0) n → ⊥)

-- the listing: seven nodes, the variables' nodes, and how many nodes, variables and bytes of nodes there are
abbrev pub WorkedListing : Type 0
WorkedListing =
    written (worked 0)
    ≡ (0 ∷ 0 ∷ 0 ∷ 0 ∷ 0 ∷ 0 ∷ 0 ∷ 0 ∷ 3 ∷ 0 ∷ 3 ∷ 0 ∷ 1 ∷ 4 ∷ 0 ∷ 2 ∷ 4 ∷ 0 ∷ [])
    ++ (0 ∷ 0 ∷ 0 ∷ 0 ∷ 0 ∷ 0 ∷ 0 ∷ 0 ∷ 1 ∷ 3 ∷ 5 ∷ 0 ∷ [])
    ++ (0 ∷ 0 ∷ 0 ∷ 0 ∷ 0 ∷ 0 ∷ 0 ∷ 0 ∷ 2 ∷ 1 ∷ 6 ∷ 0 ∷ 3 ∷ 2 ∷ 0 ∷ [])
    ++ (0 ∷ 0 ∷ 0 ∷ 0 ∷ 0 ∷ 0 ∷ 0 ∷ 0 ∷ 1 ∷ 0 ∷ 0 ∷ 0 ∷ [])
    ++ (0 ∷ 0 ∷ 0 ∷ 0 ∷ 0 ∷ 0 ∷ 0 ∷ 0 ∷ 1 ∷ 4 ∷ 5 ∷ 0 ∷ [])
    ++ (0 ∷ 0 ∷ 0 ∷ 0 ∷ 0 ∷ 0 ∷ 0 ∷ 0 ∷ 1 ∷ 5 ∷ 6 ∷ 0 ∷ [])
    ++ (0 ∷ 0 ∷ 0 ∷ 0 ∷ 0 ∷ 0 ∷ 0 ∷ 0 ∷ 0 ∷ [])
    ++ (0 ∷ 0 ∷ 1 ∷ 0 ∷ 0 ∷ 0 ∷ 2 ∷ 0 ∷ [])
    ++ (7 ∷ 0 ∷ 4 ∷ 0 ∷ 90 ∷ 0 ∷ 0 ∷ 0 ∷ [])
