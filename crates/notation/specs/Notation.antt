-- The notation: which lines there are, and the command that each writes.
use Rattle.std.specs.Prelude.{◌≡◌, ℕ, ◌^◌, ◌<◌, List, [], ◌∷◌, ◌++◌, decimal}
use Rattle.std.specs.List.{AllByRecursion}
use Rattle.features.specs.Terms.{Term}

-- a call of a session with its operands
pub data Command : Type 0 where
  declare : Command
  equals : Term → Term → Command
  is : Term → ℕ → Command
  apart : Term → Term → Command
  same : Term → Term → Command
  value : Term → Command
  list : Command

abbrev pub space : ℕ
space = 32

abbrev pub point : ℕ
point = 46

-- a point and a number for each attribute
abbrev pub written_path : List ℕ → List ℕ
written_path [] = []
written_path (a ∷ rest) = point ∷ (decimal a ++ written_path rest)

unfoldable pub written_term : Term → List ℕ
written_term t = decimal t.var ++ written_path t.path

-- a letter and two terms
abbrev pub written_pair : ℕ → Term → Term → List ℕ
written_pair letter p q = letter ∷ space ∷ (written_term p ++ (space ∷ written_term q))

-- the letters are v, e, k, d, s, w and l
abbrev pub written : Command → List ℕ
written declare = 118 ∷ []
written (equals p q) = written_pair 101 p q
written (is p v) = 107 ∷ space ∷ (written_term p ++ (space ∷ decimal v))
written (apart p q) = written_pair 100 p q
written (same p q) = written_pair 115 p q
written (value p) = 119 ∷ space ∷ written_term p
written list = 108 ∷ []

-- variables and attributes have 16 bits, values 64
pub record Sized (t : Term) : Type 0 where
  pub var : t.var < 2 ^ 16
  pub path : AllByRecursion (λ a. a < 2 ^ 16) t.path

abbrev pub InRange : Command → Type 0
InRange declare = Unit {0}
InRange (equals p q) = Sized p × Sized q
InRange (is p v) = Sized p × (v < 2 ^ 64)
InRange (apart p q) = Sized p × Sized q
InRange (same p q) = Sized p × Sized q
InRange (value p) = Sized p
InRange list = Unit {0}

-- the line writes the command
abbrev pub Writes : Command → List ℕ → Type 0
Writes c line = InRange c × (line ≡ written c)

-- some line begins so
abbrev pub Good : List ℕ → Type 0
Good beginning = (c : Command) × (rest : List ℕ) × Writes c (beginning ++ rest)

abbrev pub OneCommand : Type 0
OneCommand = (c d : Command) (line : List ℕ) → Writes c line → Writes d line → c ≡ d
