-- What follows from statements: which terms denote, and which of them one node.
use Rattle.std.specs.Prelude.{◌≡◌, ℕ, ◌<◌, true, List}
use mathlib.Core.List.{Memᴰ}
use Rattle.kinds.specs.Meaning.{Meaning}
use Rattle.features.specs.Terms.{Term, Statement, equals, is, only, ◌▸◌}

-- p and q denote one node after closing; `Joined vars said p p` says that p denotes
pub data Joined (vars : ℕ) (said : List Statement) : Term → Term → Type 0 where
  variable : (x : ℕ) → x < vars → Joined vars said (only x) (only x)
  stated : (p q : Term) → Memᴰ (equals p q) said → Joined vars said p q
  given : (p : Term) (v : ℕ) → Memᴰ (is p v) said → Joined vars said p p
  turned : (p q : Term) → Joined vars said p q → Joined vars said q p
  chained : (p q r : Term) → Joined vars said p q → Joined vars said q r → Joined vars said p r
  begun : (p q : Term) (a : ℕ) → Joined vars said (p ▸ a) q → Joined vars said p p
  beneath : (p q : Term) (a : ℕ) → Joined vars said p q → Joined vars said (p ▸ a) (p ▸ a) → Joined vars said (p ▸ a) (q ▸ a)

-- v came to the node of p
pub data Came (m : Meaning) (vars : ℕ) (said : List Statement) (p : Term) : ℕ → Type 0 where
  top : Came m vars said p m.top
  said_of : (q : Term) (v : ℕ) → Memᴰ (is q v) said → Joined vars said p q → Came m vars said p v

-- v is at or below all that came to the node of p
abbrev pub Under : Meaning → ℕ → List Statement → Term → ℕ → Type 0
Under m vars said p v = (w : ℕ) → Came m vars said p w → m.below v w ≡ true

-- the greatest such
abbrev pub Valued : Meaning → ℕ → List Statement → Term → ℕ → Type 0
Valued m vars said p v = Under m vars said p v × ((u : ℕ) → Under m vars said p u → m.below u v ≡ true)
