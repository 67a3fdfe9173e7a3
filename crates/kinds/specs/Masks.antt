-- A number of 64 bits taken as a set of the numbers below 64.
use Rattle.std.specs.Prelude.{◌≡◌, ℕ, ◌/◌, ◌%◌, ◌^◌, ◌<◌, ◌≤◌, Bool, true, false, List, Option, MatchOption, ◌==◌, ◌≢◌}
use Rattle.std.specs.List.{filter, range_with_len}

-- the set has t when its bit t is one
unfoldable pub has : ℕ → ℕ → Bool
has mask t = mask / 2 ^ t % 2 == 1

-- the answer is the lowest number that the set has, or none where it has none
abbrev pub LowestBit : ℕ → Option ℕ → Type 0
LowestBit mask r =
    MatchOption r ((t : ℕ) → has mask t ≢ true)
    (λ t. (t < 64) × (has mask t ≡ true) × ((u : ℕ) → has mask u ≡ true → t ≤ u))

-- the numbers that the set has, from the lowest up
unfoldable pub members : ℕ → List ℕ
members mask = filter (has mask) (range_with_len 0 64)

-- the number is the lowest of the set, and the rest is the set without it
pub record LowestTaken (mask lowest rest : ℕ) : Type 0 where
  pub small : lowest < 64
  pub present : has mask lowest ≡ true
  pub least : (t : ℕ) → has mask t ≡ true → lowest ≤ t
  pub gone : has rest lowest ≡ false
  pub others : (t : ℕ) → t ≢ lowest → has rest t ≡ has mask t
