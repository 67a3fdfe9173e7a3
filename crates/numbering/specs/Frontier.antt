-- Numbers given as far as some mention, and what has them all.
use Rattle.std.specs.Prelude.{◌≡◌, ℕ, ◌<◌, ◌≤◌, List, drop, vec_len}
use Rattle.std.proofs.Math.Option.{some}
use Rattle.features.specs.Graphs.{Graph}
use Rattle.features.specs.Order.{InOrder}
use Rattle.features.specs.Numbering.{Mention, by_variable, by_attribute, Sooner, FirstMention, BreadthFirst}
use Rattle.growth.specs.Joins.{Numbering, renumbered}
use Rattle.numbering.specs.declared.numbers.Numbers.{Numbers}
use Rattle.numbering.specs.Given.{ord, num, given, numbered_rows}

-- a mention of node y of g, by a variable or by an attribute of a node with a number below count
abbrev pub MentionsNode : Graph → ℕ → (ℕ → ℕ) → ℕ → Mention → Type 0
MentionsNode g count ord y (by_variable x) = (x < g.vars) × (g.root x ≡ y)
MentionsNode g count ord y (by_attribute i a) = (i < count) × (g.edge (ord i) a ≡ some y)

-- the nodes that are mentioned sooner than m have numbers, in the order of their first mentions
pub record NumberedBefore (g : Graph) (m : Mention) (count : ℕ) (ord num : ℕ → ℕ) (given : ℕ → Mention) : Type 0 where
  pub inside : (k : ℕ) → k < count → ord k < g.nodes
  pub numbered : (k : ℕ) → k < count → num (ord k) ≡ k
  pub mentioned : (k : ℕ) → k < count → MentionsNode g k ord (ord k) (given k)
  pub before : (k : ℕ) → k < count → Sooner (given k) m
  pub rising : (j k : ℕ) → j < k → k < count → Sooner (given j) (given k)
  pub all : (y : ℕ) (l : Mention) → MentionsNode g count ord y l → Sooner l m
      → (num y < count) × (ord (num y) ≡ y) × (Sooner l (given (num y)) → ⊥)

-- so far as m the rows are numbered, and those from number v on wait
pub record Underway (g : Graph) (m : Mention) (v : ℕ) (n : Numbers) (waits : List ℕ) : Type 0 where
  pub numbered : NumberedBefore g m (vec_len n.listed) (ord n) (num n) (given n)
  pub visited : v ≤ vec_len n.listed
  pub waiting : waits ≡ drop v (numbered_rows n)

-- the graph of the numbered rows, by their numbers
abbrev pub in_numbers : Graph → Numbers → Graph
in_numbers g n = renumbered g (vec_len n.listed) (ord n) (num n)

-- all nodes that terms denote have numbers, breadth first and so in listing order, and each is kept with its first mention
pub record Numbered (g : Graph) (n : Numbers) : Type 0 where
  pub few : vec_len n.listed ≤ g.nodes
  pub numbering : Numbering g (vec_len n.listed) (ord n) (num n)
  pub breadth_first : BreadthFirst (in_numbers g n)
  pub in_order : InOrder (in_numbers g n)
  pub first : (k : ℕ) → k < vec_len n.listed → FirstMention (in_numbers g n) k (given n k)
