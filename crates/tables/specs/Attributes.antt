-- A number of 32 bits taken as a set of attributes, visited from the lowest up.
use Rattle.std.specs.Prelude.{◌≡◌, ℕ, suc, ◌<◌, true, false, ◌≢◌, count_ones, Option, MatchOption}
use Rattle.std.proofs.Math.Option.{some}
use Rattle.kinds.specs.Masks.{has}
use Rattle.tables.specs.declared.attributes.Edges.{Edges}
use Rattle.tables.specs.Views.{edge_of}

-- a is the least attribute of the set
pub record Lowest (mask a : ℕ) : Type 0 where
  pub positive : 0 < mask
  pub below : a < 32
  pub present : has mask a ≡ true
  pub none_lower : (b : ℕ) → b < a → has mask b ≡ false

-- rest is the set with its least attribute taken away
pub record WithoutLowest (mask rest : ℕ) : Type 0 where
  pub smaller : rest < mask
  pub fewer : suc (count_ones rest) ≡ count_ones mask
  pub gone : (a : ℕ) → Lowest mask a → has rest a ≡ false
  pub others : (a b : ℕ) → Lowest mask a → (b ≢ a) → has rest b ≡ has mask b

-- the least attribute that was left, and where it leads; or none, where none was left
abbrev pub GivesEdge : Edges → Option (ℕ × ℕ) → Edges → Type 0
GivesEdge s r s' =
    (s'.node ≡ s.node)
    × MatchOption r ((s.left ≡ 0) × (s'.left ≡ 0)) (λ e. Lowest s.left e.0 × WithoutLowest s.left s'.left × (edge_of s.node.now e.0 ≡ some e.1))
