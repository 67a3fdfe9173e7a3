-- The three ways in which statements can contradict one another, each by the node or the apart at fault.
use Rattle.std.specs.Prelude.{◌≡◌, ℕ, suc, true, List, ◌∷◌}
use Rattle.kinds.specs.Meaning.{Meaning}
use Rattle.features.specs.Terms.{Term, Statement, apart, ◌▸◌}
use Rattle.features.specs.Closing.{Joined, Under, Valued}
use Rattle.features.specs.Order.{◌≺◌}

module _ (m : Meaning) (vars : ℕ) (said : List Statement) where
  -- t is the first of the terms that denote its node
  pub record First (t : Term) : Type 0 where
    pub denotes : Joined vars said t t
    pub least : (p : Term) → Joined vars said t p → p ≺ t → ⊥

  -- no value is at or below all that came to the node of t
  abbrev pub NoValue : Term → Type 0
  NoValue t = (v : ℕ) → Under m vars said t v → ⊥

  -- the node of t has a leaf and an attribute
  abbrev pub LeafBranches : Term → Type 0
  LeafBranches t = (v : ℕ) × (a : ℕ) × Valued m vars said t v × (m.leaf v ≡ true) × Joined vars said (t ▸ a) (t ▸ a)

  -- t is the trail of the first node at fault
  pub record FirstAt (Fault : Term → Type 0) (t : Term) : Type 0 where
    pub trail : First t
    pub faulty : Fault t
    pub none_before : (u : Term) → First u → u ≺ t → Fault u → ⊥

  abbrev pub Nowhere : (Term → Type 0) → Type 0
  Nowhere Fault = (t : Term) → First t → Fault t → ⊥

  -- the apart at a place, of those kept, has one node on both sides
  pub data Broken : List Statement → ℕ → Type 0 where
    here : {p q : Term} {rest : List Statement} → Joined vars said p q → Broken (apart p q ∷ rest) 0
    past : {s : Statement} {rest : List Statement} {i : ℕ} → Broken rest i → Broken (s ∷ rest) (suc i)
