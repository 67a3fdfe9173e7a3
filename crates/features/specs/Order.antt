-- Listing order: shorter terms first, then by variable, then by attributes from the first.
use Rattle.std.specs.Prelude.{◌≡◌, ℕ, ◌<◌, ◌⊎◌, List, [], ◌∷◌, length}
use Rattle.features.specs.Terms.{Term}
use Rattle.features.specs.Graphs.{Graph, Denotes}

-- at the first place where they differ, the first list has the lesser number
abbrev pub Before : List ℕ → List ℕ → Type 0
Before [] ys = ⊥
Before (x ∷ xs) [] = ⊥
Before (x ∷ xs) (y ∷ ys) = (x < y) ⊎ ((x ≡ y) × Before xs ys)

abbrev pub ◌≺◌ : Term → Term → Type 0
s ≺ t = (length s.path < length t.path) ⊎ ((length s.path ≡ length t.path) × Before (s.var ∷ s.path) (t.var ∷ t.path))

infix 60 ◌≺◌
-- t is the first term that denotes n
pub record Trail (g : Graph) (n : ℕ) (t : Term) : Type 0 where
  pub denotes : Denotes g t n
  pub first : (p : Term) → Denotes g p n → p ≺ t → ⊥

-- the nodes of g are numbered by their trails, and each is reached
pub record InOrder (g : Graph) : Type 0 where
  pub reached : (n : ℕ) → n < g.nodes → (t : Term) × Trail g n t
  pub rising : (i j : ℕ) (s t : Term) → i < j → j < g.nodes → Trail g i s → Trail g j t → s ≺ t
