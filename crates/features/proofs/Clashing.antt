-- A clash leaves no graph that satisfies what was said.
use Rattle.std.proofs.Common.{ℕ, List}
use mathlib.Core.List.{Memᴰ}
use Rattle.kinds.specs.Meaning.{Meaning, Lawful}
use Rattle.features.specs.Terms.{Term, Statement, apart}
use Rattle.features.specs.Graphs.{Graph, Denotes, Model}
use Rattle.features.specs.Closing.{Joined}
use Rattle.features.specs.Clashes.{NoValue, LeafBranches}
use Rattle.features.specs.Theorems.{Clash, no_value, leaf_branches, one_node}
use Rattle.features.proofs.Paths.{leads_back, feature_inside, some_not_none}
use Rattle.features.proofs.Sound.{joined_in_model, model_value_under}

module _ (m : Meaning) (lawful : Lawful m) (vars : ℕ) (said : List Statement) (g : Graph) (model : Model m vars said g) where
  pub value_there : (t : Term) → Joined vars said t t → NoValue m vars said t → ⊥
  value_there t j nothing =
      let d = joined_in_model m vars said g model j in
      nothing (g.value d.0) (model_value_under m vars said g model lawful t d.0 d.1)

  pub leaf_bare : (t : Term) → LeafBranches m vars said t → ⊥
  leaf_bare t (v, a, valued, leaf, j) =
      let d = joined_in_model m vars said g model j in
      let b = leads_back t.path d.1.1 in
      let k : Denotes g t b.0 = (d.1.0, b.1) in
      let under = valued.1 (g.value b.0) (model_value_under m vars said g model lawful t b.0 k) in
      some_not_none b.2 (model.feature.leaves b.0 a (feature_inside m g model.feature t b.0 k) (lawful.leaf_below (g.value b.0) v leaf under))

  pub apart_there : (p q : Term) → Memᴰ (apart p q) said → Joined vars said p q → ⊥
  apart_there p q i j =
      let d = joined_in_model m vars said g model j in
      model.satisfies (apart p q) i d.0 d.1 d.2

  pub no_clash : Clash m vars said → ⊥
  no_clash (no_value t j n) = value_there t j n
  no_clash (leaf_branches t l) = leaf_bare t l
  no_clash (one_node p q i j) = apart_there p q i j
