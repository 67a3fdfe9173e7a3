-- A graph, with the aparts kept beside it, holds what was said: it is the most general graph, and no apart is lost.
use Rattle.std.specs.Prelude.{◌≡◌, ℕ, ◌<◌, ◌≤◌, true, List, [], ◌∷◌, length}
use mathlib.Core.List.{Memᴰ}
use Rattle.kinds.specs.Meaning.{Meaning}
use Rattle.features.specs.Terms.{Term, Statement, equals, is, apart}
use Rattle.features.specs.Graphs.{Graph, Denotes}
use Rattle.features.specs.Closing.{Joined, Valued}
use Rattle.features.specs.Order.{InOrder}
use Rattle.features.specs.Listing.{written}

-- the aparts of a list of statements, in their order
abbrev pub aparts_of : List Statement → List Statement
aparts_of [] = []
aparts_of (equals p q ∷ rest) = aparts_of rest
aparts_of (is p v ∷ rest) = aparts_of rest
aparts_of (apart p q ∷ rest) = apart p q ∷ aparts_of rest

-- attributes are below 32
pub data Small : List ℕ → Type 0 where
  end : Small []
  also : {a : ℕ} {rest : List ℕ} → a < 32 → Small rest → Small (a ∷ rest)

pub record Sound (vars : ℕ) (t : Term) : Type 0 where
  pub declared : t.var < vars
  pub short : length t.path ≤ 8
  pub small : Small t.path

-- a statement that no call would refuse for its terms or its value
abbrev pub Proper : Meaning → ℕ → Statement → Type 0
Proper m vars (equals p q) = Sound vars p × Sound vars q
Proper m vars (is p v) = Sound vars p × (m.value v ≡ true)
Proper m vars (apart p q) = Sound vars p × Sound vars q

-- the graph joins exactly what closing joins, and has no node besides those that terms denote
pub record Shape (g : Graph) (vars : ℕ) (said : List Statement) : Type 0 where
  pub all : g.vars ≡ vars
  pub joined : (p q : Term) → Joined vars said p q → (n : ℕ) × Denotes g p n × Denotes g q n
  pub nothing_else : (p q : Term) (n : ℕ) → Denotes g p n → Denotes g q n → Joined vars said p q
  pub reached : (n : ℕ) → n < g.nodes → (p : Term) × Denotes g p n
  pub inside : (p : Term) (n : ℕ) → Denotes g p n → n < g.nodes

pub record Holds (m : Meaning) (g : Graph) (kept : List Statement) (vars : ℕ) (said : List Statement) : Type 0 where
  pub proper : (s : Statement) → Memᴰ s said → Proper m vars s
  pub aparts : kept ≡ aparts_of said
  pub all : g.vars ≡ vars
  pub joined : (p q : Term) → Joined vars said p q → (n : ℕ) × Denotes g p n × Denotes g q n
  pub nothing_else : (p q : Term) (n : ℕ) → Denotes g p n → Denotes g q n → Joined vars said p q
  pub reached : (n : ℕ) → n < g.nodes → (p : Term) × Denotes g p n
  pub inside : (p : Term) (n : ℕ) → Denotes g p n → n < g.nodes
  pub values : (p : Term) (n : ℕ) → Denotes g p n → Valued m vars said p (g.value n)

pub record Listed (m : Meaning) (vars : ℕ) (said : List Statement) (bytes : List ℕ) : Type 0 where
  pub graph : Graph
  pub holds : Holds m graph (aparts_of said) vars said
  pub ordered : InOrder graph
  pub bytes_are : bytes ≡ written graph
