-- What a kind of value says: its values, their order, its top and its leaves, taken as one object.
use Rattle.std.specs.Prelude.{◌≡◌, ℕ, ◌^◌, ◌<◌, Bool, true, false, List}
use mathlib.Core.List.{Memᴰ}

-- `below v w` says that v is at or below w
pub record Meaning : Type 0 where
  pub value : ℕ → Bool
  pub top : ℕ
  pub below : ℕ → ℕ → Bool
  pub leaf : ℕ → Bool

-- c is at or below both
abbrev pub Both : Meaning → ℕ → ℕ → ℕ → Type 0
Both m a b c = (m.below c a ≡ true) × (m.below c b ≡ true)

-- v is the greatest value at or below both
abbrev pub Greatest : Meaning → ℕ → ℕ → ℕ → Type 0
Greatest m a b v = Both m a b v × ((e : ℕ) → Both m a b e → m.below e v ≡ true)

-- what every kind owes: numbers of 64 bits, a partial order on its values with one top, leaves that are closed downward
-- and not the top, and a greatest value at or below two that have a common one at or below them
pub record Lawful (m : Meaning) : Type 0 where
  pub bounded : (v : ℕ) → m.value v ≡ true → v < 2 ^ 64
  pub top_value : m.value m.top ≡ true
  pub under_top : (v : ℕ) → m.value v ≡ true → m.below v m.top ≡ true
  pub values : (v w : ℕ) → m.below v w ≡ true → (m.value v ≡ true) × (m.value w ≡ true)
  pub same : (v : ℕ) → m.value v ≡ true → m.below v v ≡ true
  pub trans : (u v w : ℕ) → m.below u v ≡ true → m.below v w ≡ true → m.below u w ≡ true
  pub antisym : (v w : ℕ) → m.below v w ≡ true → m.below w v ≡ true → v ≡ w
  pub leaf_value : (v : ℕ) → m.leaf v ≡ true → m.value v ≡ true
  pub leaf_below : (v w : ℕ) → m.leaf w ≡ true → m.below v w ≡ true → m.leaf v ≡ true
  pub top_open : m.leaf m.top ≡ false
  pub meets : (a b c : ℕ) → Both m a b c → (d : ℕ) × Greatest m a b d

-- v is at or below each value of the list; of an empty list, every value is
abbrev pub BelowAll : Meaning → List ℕ → ℕ → Type 0
BelowAll m vs v = (m.value v ≡ true) × ((w : ℕ) → Memᴰ w vs → m.below v w ≡ true)

-- the greatest such
abbrev pub GreatestOfAll : Meaning → List ℕ → ℕ → Type 0
GreatestOfAll m vs v = BelowAll m vs v × ((u : ℕ) → BelowAll m vs u → m.below u v ≡ true)
