-- What a join, a value and a renumbering make of a graph that stands for what was said, and which contradiction it then names.
use Rattle.std.specs.Prelude.{◌≡◌, ◌⊎◌, ◌↔◌, true, List, [], ◌∷◌, ◌++◌, ℕ, zero, suc, ◌<◌}
use Rattle.std.proofs.Math.Option.{Option, some, none, map}
use Rattle.kinds.specs.Meaning.{Meaning, Lawful}
use Rattle.features.specs.Terms.{Term, Statement, equals, is, apart}
use Rattle.features.specs.Graphs.{Graph, Denotes}
use Rattle.features.specs.Closing.{Joined}
use Rattle.features.specs.Order.{Trail, InOrder}
use Rattle.features.specs.Clashes.{First, NoValue, LeafBranches, FirstAt, Nowhere, Broken}
use Rattle.growth.specs.Standing.{Shape, Stands, Meets}
use Rattle.growth.specs.Changes.{Given, Congruent, Quotient}
use Rattle.growth.specs.Theorems.{SameShape}

-- with the nodes of p and q joined, the graph stands for what was said and that p equals q
abbrev pub JoinStands : Type 0
JoinStands = (m : Meaning) (g h : Graph) (state state' : ℕ → Option ℕ) (vars : ℕ) (said : List Statement) (p q : Term) (s t : ℕ) (f : ℕ → ℕ)
    → Lawful m → Stands m g state vars said → Denotes g p s → Denotes g q t → Quotient m s t g state f h state'
    → Stands m h state' vars (said ++ (equals p q ∷ []))

-- with v come to the node of p, the graph stands for what was said and that p is v
abbrev pub ValueStands : Type 0
ValueStands = (m : Meaning) (g h : Graph) (state state' : ℕ → Option ℕ) (vars : ℕ) (said : List Statement) (p : Term) (s v : ℕ)
    → Lawful m → Stands m g state vars said → Denotes g p s → Given m s v g state h state'
    → Stands m h state' vars (said ++ (is p v ∷ []))

-- the first terms of the nodes are the first of those that are joined
abbrev pub TrailsAreFirst : Type 0
TrailsAreFirst = (m : Meaning) (h : Graph) (vars : ℕ) (said : List Statement) → Shape h vars said
    → (t : Term) → ((k : ℕ) × Trail h k t) ↔ First m vars said t

-- the first node without a value, in listing order, is the first on which nothing stands
abbrev pub NamesNoValue : Type 0
NamesNoValue = (m : Meaning) (h : Graph) (state : ℕ → Option ℕ) (vars : ℕ) (said : List Statement)
    → InOrder h → Stands m h state vars said
    → ((k : ℕ) (t : Term) → state k ≡ none → ((j : ℕ) → j < k → state j ≡ none → ⊥) → Trail h k t → FirstAt m vars said (NoValue m vars said) t)
    × (((k : ℕ) → k < h.nodes → state k ≡ none → ⊥) → Nowhere m vars said (NoValue m vars said))

-- a leaf stands on node k, and it has an attribute
abbrev pub LeafAt : Meaning → Graph → (ℕ → Option ℕ) → ℕ → Type 0
LeafAt m h state k = (v : ℕ) × (a : ℕ) × (j : ℕ) × (state k ≡ some v) × (m.leaf v ≡ true) × (h.edge k a ≡ some j)

-- the first leaf with an attribute, in listing order, is on the first node that has both
abbrev pub NamesLeafBranches : Type 0
NamesLeafBranches = (m : Meaning) (h : Graph) (state : ℕ → Option ℕ) (vars : ℕ) (said : List Statement)
    → Lawful m → InOrder h → Stands m h state vars said
    → ((k : ℕ) (t : Term) → LeafAt m h state k → ((j : ℕ) → j < k → LeafAt m h state j → ⊥) → Trail h k t → FirstAt m vars said (LeafBranches m vars said) t)
    × (((k : ℕ) → k < h.nodes → LeafAt m h state k → ⊥) → Nowhere m vars said (LeafBranches m vars said))

-- both denote one node
abbrev pub OneNode : Graph → Term → Term → Type 0
OneNode h p q = (n : ℕ) × Denotes h p n × Denotes h q n

-- the statement at a place is an apart whose sides denote one node
abbrev pub ApartOnOne : Graph → List Statement → ℕ → Type 0
ApartOnOne h [] i = ⊥
ApartOnOne h (s ∷ rest) (suc i) = ApartOnOne h rest i
ApartOnOne h (equals p q ∷ rest) zero = ⊥
ApartOnOne h (is p v ∷ rest) zero = ⊥
ApartOnOne h (apart p q ∷ rest) zero = OneNode h p q

-- an apart is broken exactly where its sides denote one node
abbrev pub NamesBroken : Type 0
NamesBroken = (m : Meaning) (h : Graph) (vars : ℕ) (said : List Statement) → Shape h vars said
    → ((p q : Term) → Joined vars said p q ↔ OneNode h p q) × ((kept : List Statement) (i : ℕ) → Broken m vars said kept i ↔ ApartOnOne h kept i)

-- every node is denoted by a term, and terms denote nothing else
pub record Accessible (g : Graph) : Type 0 where
  pub reached : (n : ℕ) → n < g.nodes → (p : Term) × Denotes g p n
  pub inside : (p : Term) (n : ℕ) → Denotes g p n → n < g.nodes

-- s and t of g are joined, and what lies beneath them, and nothing else, by choosing a representative of each node: h has the
-- nodes of g, but only representatives count in it, and their attributes and what stands on them are those of all that they represent
pub record Representatives (m : Meaning) (s t : ℕ) (g : Graph) (state : ℕ → Option ℕ) (rep : ℕ → ℕ) (h : Graph) (state' : ℕ → Option ℕ) : Type 0 where
  pub nodes : h.nodes ≡ g.nodes
  pub vars : h.vars ≡ g.vars
  pub inside : (x : ℕ) → x < g.nodes → rep x < g.nodes
  pub itself : (x : ℕ) → x < g.nodes → rep (rep x) ≡ rep x
  pub roots : (x : ℕ) → x < g.vars → h.root x ≡ rep (g.root x)
  pub edges : (x a y : ℕ) → x < g.nodes → g.edge x a ≡ some y → h.edge (rep x) a ≡ some (rep y)
  pub no_others : (r a k : ℕ) → r < g.nodes → rep r ≡ r → h.edge r a ≡ some k
      → (x : ℕ) × (y : ℕ) × (x < g.nodes) × (rep x ≡ r) × (g.edge x a ≡ some y) × (rep y ≡ k)
  pub pair : rep s ≡ rep t
  pub nothing_else : (x y : ℕ) → x < g.nodes → y < g.nodes → rep x ≡ rep y → Congruent g s t x y
  pub met : (r : ℕ) → r < g.nodes → rep r ≡ r → Meets m (λ o. (x : ℕ) × (x < g.nodes) × (rep x ≡ r) × (o ≡ state x)) (state' r)

-- the nodes of g that terms denote get the numbers below count: ord is the node of a number, num the number of a node
pub record Numbering (g : Graph) (count : ℕ) (ord num : ℕ → ℕ) : Type 0 where
  pub inside : (k : ℕ) → k < count → ord k < g.nodes
  pub numbered : (k : ℕ) → k < count → num (ord k) ≡ k
  pub found : (k : ℕ) → k < count
      → ((x : ℕ) × (x < g.vars) × (g.root x ≡ ord k)) ⊎ ((j : ℕ) × (a : ℕ) × (j < k) × (g.edge (ord j) a ≡ some (ord k)))
  pub roots : (x : ℕ) → x < g.vars → (num (g.root x) < count) × (ord (num (g.root x)) ≡ g.root x)
  pub edges : (k a y : ℕ) → k < count → g.edge (ord k) a ≡ some y → (num y < count) × (ord (num y) ≡ y)

-- the graph of the numbered nodes, by their numbers
abbrev pub renumbered : Graph → ℕ → (ℕ → ℕ) → (ℕ → ℕ) → Graph
renumbered g count ord num = record {
  nodes = count;
  value = λ k. g.value (ord k);
  edge = λ k a. map num (g.edge (ord k) a);
  vars = g.vars;
  root = λ x. num (g.root x);
}

-- the numbered representatives are the graph with the two nodes joined
abbrev pub RenumberedQuotient : Type 0
RenumberedQuotient = (m : Meaning) (s t : ℕ) (g h : Graph) (state state' : ℕ → Option ℕ) (rep : ℕ → ℕ) (count : ℕ) (ord num : ℕ → ℕ)
    → Accessible g → Representatives m s t g state rep h state' → Numbering h count ord num
    → Quotient m s t g state (λ x. num (rep x)) (renumbered h count ord num) (λ k. state' (ord k))

-- a term denotes, of the renumbered nodes, the number of the node that it denoted
abbrev pub RenumberedDenotes : Type 0
RenumberedDenotes = (g : Graph) (count : ℕ) (ord num : ℕ → ℕ) → Numbering g count ord num → (p : Term)
    → ((n : ℕ) → Denotes g p n → (num n < count) × (ord (num n) ≡ n) × Denotes (renumbered g count ord num) p (num n))
    × ((k : ℕ) → Denotes (renumbered g count ord num) p k → (k < count) × Denotes g p (ord k))

-- renumbered, a graph stands for what it stood for
abbrev pub RenumberedStands : Type 0
RenumberedStands = (m : Meaning) (g : Graph) (state : ℕ → Option ℕ) (vars : ℕ) (said : List Statement) (count : ℕ) (ord num : ℕ → ℕ)
    → Stands m g state vars said → Numbering g count ord num
    → Stands m (renumbered g count ord num) (λ k. state (ord k)) vars said

-- graphs of one shape are in listing order together
abbrev pub SameShapeInOrder : Type 0
SameShapeInOrder = (g h : Graph) (vars : ℕ) (said : List Statement) → Shape g vars said → SameShape g h → InOrder g → InOrder h

-- with the nodes of p and q joined by representatives, which are then numbered, the graph stands for what was said and that p equals q
abbrev pub NumberedJoinStands : Type 0
NumberedJoinStands = (m : Meaning) (g h : Graph) (state state' : ℕ → Option ℕ) (vars : ℕ) (said : List Statement) (p q : Term) (s t : ℕ) (rep : ℕ → ℕ) (count : ℕ) (ord num : ℕ → ℕ)
    → Lawful m → Stands m g state vars said → Denotes g p s → Denotes g q t → Representatives m s t g state rep h state' → Numbering h count ord num
    → Stands m (renumbered h count ord num) (λ k. state' (ord k)) vars (said ++ (equals p q ∷ []))
