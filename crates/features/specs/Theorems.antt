-- What is proved of statements, of the graphs that satisfy them, and of their listing.
use Rattle.std.specs.Prelude.{◌≡◌, ℕ, ◌⊎◌, ◌↔◌, List, ◌≢◌}
use mathlib.Core.List.{Memᴰ}
use Rattle.kinds.specs.Meaning.{Meaning, Lawful}
use Rattle.features.specs.Terms.{Term, Statement, apart, SameMembers}
use Rattle.features.specs.Graphs.{Graph, Feature, Denotes, Model, OneMap, SameGraph}
use Rattle.features.specs.Closing.{Joined, Under, Valued}
use Rattle.features.specs.Order.{◌≺◌, Trail, InOrder}
use Rattle.features.specs.Listing.{written}
use Rattle.features.specs.Holding.{aparts_of, Holds, Listed}
use Rattle.features.specs.Clashes.{First, NoValue, LeafBranches, FirstAt, Nowhere, Broken}

-- Joined terms denote one node in every graph that satisfies the statements.
abbrev pub JoinedInEveryModel : Type 0
JoinedInEveryModel =
    (m : Meaning) (vars : ℕ) (said : List Statement) (g : Graph) → Model m vars said g →
    (p q : Term) → Joined vars said p q → (n : ℕ) × Denotes g p n × Denotes g q n

-- What contradicts: a node with no value at or below all that came to it, a node with a leaf and an attribute, an apart of one node.
pub data Clash (m : Meaning) (vars : ℕ) (said : List Statement) : Type 0 where
  no_value : (t : Term) → Joined vars said t t → NoValue m vars said t → Clash m vars said
  leaf_branches : (t : Term) → LeafBranches m vars said t → Clash m vars said
  one_node : (p q : Term) → Memᴰ (apart p q) said → Joined vars said p q → Clash m vars said

-- Under a clash no finite feature graph satisfies the statements.
abbrev pub ClashHasNoModel : Type 0
ClashHasNoModel =
    (m : Meaning) → Lawful m → (vars : ℕ) (said : List Statement) → Clash m vars said →
    (g : Graph) → Model m vars said g → ⊥

-- none of the three sorts of clash, looked for at the first terms and at the aparts in their order
pub record NoClash (m : Meaning) (vars : ℕ) (said : List Statement) : Type 0 where
  pub valued : Nowhere m vars said (NoValue m vars said)
  pub leaves_bare : Nowhere m vars said (LeafBranches m vars said)
  pub aparts_kept : (j : ℕ) → Broken m vars said (aparts_of said) j → ⊥

-- A graph that holds what was said, without a clash, satisfies all of it, and exactly one map leads from it into each finite feature
-- graph that does: it is the most general one.
abbrev pub MostGeneral : Type 0
MostGeneral =
    (m : Meaning) → Lawful m → (g : Graph) (kept : List Statement) (vars : ℕ) (said : List Statement) →
    Holds m g kept vars said → NoClash m vars said →
    Model m vars said g × ((h : Graph) → Model m vars said h → OneMap m g h)

-- Where some graph holds what was said, these are the same: to have a model, to have no clash at a first term or an apart in its place,
-- and to have no clash at all.
abbrev pub ModelExactlyWithoutClash : Type 0
ModelExactlyWithoutClash =
    (m : Meaning) → Lawful m → (g : Graph) (kept : List Statement) (vars : ℕ) (said : List Statement) →
    Holds m g kept vars said →
    (((h : Graph) × Model m vars said h) ↔ NoClash m vars said) × (NoClash m vars said ↔ (Clash m vars said → ⊥))

-- Closing joins no more than it must: without a clash, what denotes one node in every model is joined.
abbrev pub JoinedIfInEveryModel : Type 0
JoinedIfInEveryModel =
    (m : Meaning) → Lawful m → (g : Graph) (kept : List Statement) (vars : ℕ) (said : List Statement) →
    Holds m g kept vars said → NoClash m vars said →
    (p q : Term) → ((h : Graph) → Model m vars said h → (n : ℕ) × Denotes h p n × Denotes h q n) → Joined vars said p q

-- what two lists of statements agree on: which terms are joined, the values under what came to a node, the first terms, the first node
-- at fault of either sort, and whether an apart is broken (at which place is left open, since an apart may stand elsewhere in the other)
pub record SameClosing (m : Meaning) (vars : ℕ) (said said' : List Statement) : Type 0 where
  pub joined : (p q : Term) → Joined vars said p q ↔ Joined vars said' p q
  pub under : (t : Term) (v : ℕ) → Under m vars said t v ↔ Under m vars said' t v
  pub valued : (t : Term) (v : ℕ) → Valued m vars said t v ↔ Valued m vars said' t v
  pub first : (t : Term) → First m vars said t ↔ First m vars said' t
  pub first_no_value : (t : Term) → FirstAt m vars said (NoValue m vars said) t ↔ FirstAt m vars said' (NoValue m vars said') t
  pub no_value_nowhere : Nowhere m vars said (NoValue m vars said) ↔ Nowhere m vars said' (NoValue m vars said')
  pub first_leaf_branches : (t : Term) → FirstAt m vars said (LeafBranches m vars said) t ↔ FirstAt m vars said' (LeafBranches m vars said') t
  pub leaf_branches_nowhere : Nowhere m vars said (LeafBranches m vars said) ↔ Nowhere m vars said' (LeafBranches m vars said')
  pub broken : ((j : ℕ) × Broken m vars said (aparts_of said) j) ↔ ((j : ℕ) × Broken m vars said' (aparts_of said') j)

-- Closing depends on the number of variables and on the set of statements alone.
abbrev pub ClosingBySet : Type 0
ClosingBySet =
    (m : Meaning) (vars : ℕ) (said said' : List Statement) → SameMembers said said' → SameClosing m vars said said'

-- A graph that holds what was said holds every list of the same statements; only the list of kept aparts follows their order.
abbrev pub HoldsBySet : Type 0
HoldsBySet =
    (m : Meaning) (g : Graph) (kept : List Statement) (vars : ℕ) (said said' : List Statement) →
    Holds m g kept vars said → SameMembers said said' → Holds m g (aparts_of said') vars said'

-- Terms in listing order: none comes before itself, the order is transitive, and of two different terms one comes first.
pub record StrictTotalOrder : Type 0 where
  pub irreflexive : (t : Term) → t ≺ t → ⊥
  pub transitive : (s t u : Term) → s ≺ t → t ≺ u → s ≺ u
  pub total : (s t : Term) → (s ≢ t) → (s ≺ t) ⊎ (t ≺ s)

-- exactly one term is the trail of n
abbrev pub OneTrail : Graph → ℕ → Type 0
OneTrail g n = (t : Term) × Trail g n t × ((s : Term) → Trail g n s → s ≡ t)

-- Every node of a finite feature graph that some term denotes has exactly one trail.
abbrev pub EveryNodeHasOneTrail : Type 0
EveryNodeHasOneTrail =
    (m : Meaning) (g : Graph) → Feature m g →
    (p : Term) (n : ℕ) → Denotes g p n → OneTrail g n

-- In a graph that holds what was said, the trail of a node is the first of the joined terms that denote it.
abbrev pub TrailIsFirst : Type 0
TrailIsFirst =
    (m : Meaning) (g : Graph) (kept : List Statement) (vars : ℕ) (said : List Statement) →
    Holds m g kept vars said →
    (t : Term) (n : ℕ) → Denotes g t n → Trail g n t ↔ First m vars said t

-- Two graphs in listing order that hold the same statements are equal: node count, values, attributes, targets and the variables' nodes.
abbrev pub OneGraph : Type 0
OneGraph =
    (m : Meaning) → Lawful m → (g h : Graph) (kept kept' : List Statement) (vars : ℕ) (said said' : List Statement) →
    Holds m g kept vars said → Holds m h kept' vars said' → SameMembers said said' →
    InOrder g → InOrder h → SameGraph g h

-- Equal graphs have equal bytes.
abbrev pub SameGraphSameBytes : Type 0
SameGraphSameBytes = (g h : Graph) → SameGraph g h → written g ≡ written h

-- For each number of variables and set of statements there is at most one listing.
abbrev pub OneListing : Type 0
OneListing =
    (m : Meaning) → Lawful m → (vars : ℕ) (said said' : List Statement) (bytes bytes' : List ℕ) →
    Listed m vars said bytes → Listed m vars said' bytes' → SameMembers said said' → bytes ≡ bytes'
