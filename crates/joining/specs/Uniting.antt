-- One node of a graph becomes part of another.
use Rattle.std.specs.Prelude.{◌≡◌, ℕ, ◌<◌, cond, ◌⊎◌, List, [], ◌∷◌, ◌++◌, ◌==◌, ◌≢◌}
use Rattle.std.proofs.Math.Option.{Option, some, none, or_else}
use Rattle.kinds.specs.Meaning.{Meaning}
use Rattle.features.specs.Listing.{count}
use Rattle.growth.specs.Standing.{Meets}
use Rattle.joining.specs.declared.workspace.Pair.{Pair}

-- node `to` has the attributes of `from` besides its own; where an attribute of both leads waits to be joined
pub record Takes (edge : ℕ → ℕ → Option ℕ) (W : ℕ → ℕ → Type 0) (to from : ℕ) (edge' : ℕ → ℕ → Option ℕ) (W' : ℕ → ℕ → Type 0) : Type 0 where
  pub others : (r c : ℕ) → (r ≢ to) → edge' r c ≡ edge r c
  pub merged : (c : ℕ) → edge' to c ≡ or_else (edge to c) (edge from c)
  pub kept : (u v : ℕ) → W u v → W' u v
  pub owed : (c u v : ℕ) → edge to c ≡ some u → edge from c ≡ some v → W' u v
  pub no_more : (u v : ℕ) → W' u v → W u v ⊎ ((c : ℕ) × (edge to c ≡ some u) × (edge from c ≡ some v))

-- `to` represents from now on all that `from` represented
pub record Relabels (nodes : ℕ) (rep : ℕ → ℕ) (to from : ℕ) (rep' : ℕ → ℕ) : Type 0 where
  pub moved : (x : ℕ) → x < nodes → rep x ≡ from → rep' x ≡ to
  pub stayed : (x : ℕ) → x < nodes → (rep x ≢ from) → rep' x ≡ rep x

-- on `to` stands the greatest value at or below what stood on both
pub record Meeting (m : Meaning) (stands : ℕ → Option ℕ) (to from : ℕ) (stands' : ℕ → Option ℕ) : Type 0 where
  pub others : (r : ℕ) → (r ≢ to) → stands' r ≡ stands r
  pub met : Meets m (λ o. (o ≡ stands to) ⊎ (o ≡ stands from)) (stands' to)

-- where an attribute leads already and where it is to lead, if it leads anywhere already
abbrev pub clash : Option ℕ → ℕ → List Pair
clash (some u) v = record { left = u; right = v } ∷ []
clash none v = []

-- the attribute a that leads to v comes to node `to`: it leads there if `to` had no such attribute, else its target and v wait to be joined
pub record TakesOne (edge : ℕ → ℕ → Option ℕ) (pairs : List Pair) (to a v : ℕ) (edge' : ℕ → ℕ → Option ℕ) (pairs' : List Pair) : Type 0 where
  pub others : (r c : ℕ) → ((r ≡ to) → (c ≡ a) → ⊥) → edge' r c ≡ edge r c
  pub merged : edge' to a ≡ or_else (edge to a) (some v)
  pub waiting : pairs' ≡ pairs ++ clash (edge to a) v

-- how many of the nodes represent themselves
abbrev pub representatives : (ℕ → ℕ) → ℕ → ℕ
representatives rep nodes = count (λ x. cond (rep x == x) 1 0) 0 nodes
