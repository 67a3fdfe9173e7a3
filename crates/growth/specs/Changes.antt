-- How one graph comes from another: by a new variable, by a new node, by a value given to a node, by joining two nodes and what lies beneath them.
use Rattle.std.specs.Prelude.{◌≡◌, ◌⊎◌, List, [], ◌∷◌, ℕ, suc, ◌<◌}
use Rattle.std.proofs.Math.Option.{Option, some, none}
use Rattle.kinds.specs.Meaning.{Meaning}
use Rattle.features.specs.Graphs.{Graph}
use Rattle.growth.specs.Standing.{Meets}

-- the nodes of g, with their attributes and what stands on them, are in h as they were
pub record Kept (g h : Graph) (state state' : ℕ → Option ℕ) : Type 0 where
  pub roots : (x : ℕ) → x < g.vars → h.root x ≡ g.root x
  pub states : (n : ℕ) → n < g.nodes → state' n ≡ state n

-- one variable more, on a new node with the value v and no attribute
pub record NewVariable (v : ℕ) (g : Graph) (state : ℕ → Option ℕ) (h : Graph) (state' : ℕ → Option ℕ) : Type 0 where
  pub kept : Kept g h state state'
  pub nodes : h.nodes ≡ suc g.nodes
  pub vars : h.vars ≡ suc g.vars
  pub root : h.root g.vars ≡ g.nodes
  pub edges : (n a : ℕ) → n < g.nodes → h.edge n a ≡ g.edge n a
  pub bare : (a : ℕ) → h.edge g.nodes a ≡ none
  pub stands : state' g.nodes ≡ some v

-- node n, which had no attribute a, has it now: it leads to a new node with the value v and no attribute
pub record NewNode (v : ℕ) (n a : ℕ) (g : Graph) (state : ℕ → Option ℕ) (h : Graph) (state' : ℕ → Option ℕ) : Type 0 where
  pub kept : Kept g h state state'
  pub nodes : h.nodes ≡ suc g.nodes
  pub vars : h.vars ≡ g.vars
  pub lacked : g.edge n a ≡ none
  pub leads : h.edge n a ≡ some g.nodes
  pub edges : (k b : ℕ) → k < g.nodes → ((k ≡ n) → (b ≡ a) → ⊥) → h.edge k b ≡ g.edge k b
  pub bare : (b : ℕ) → h.edge g.nodes b ≡ none
  pub stands : state' g.nodes ≡ some v

-- from node n the path is followed, and nodes that it lacks are added with the value v, until it ends at a node
pub data Grown (v : ℕ) : Graph → (ℕ → Option ℕ) → ℕ → List ℕ → Graph → (ℕ → Option ℕ) → ℕ → Type 0 where
  ends : {g : Graph} {state : ℕ → Option ℕ} {n : ℕ} → Grown v g state n [] g state n
  follows : {g h : Graph} {state state' : ℕ → Option ℕ} {n a k e : ℕ} {rest : List ℕ}
      → g.edge n a ≡ some k → Grown v g state k rest h state' e → Grown v g state n (a ∷ rest) h state' e
  adds : {g f h : Graph} {state between state' : ℕ → Option ℕ} {n a e : ℕ} {rest : List ℕ}
      → NewNode v n a g state f between → Grown v f between g.nodes rest h state' e → Grown v g state n (a ∷ rest) h state' e

-- the value v comes to node s: it then has the greatest value at or below v and what stood there
pub record Given (m : Meaning) (s v : ℕ) (g : Graph) (state : ℕ → Option ℕ) (h : Graph) (state' : ℕ → Option ℕ) : Type 0 where
  pub nodes : h.nodes ≡ g.nodes
  pub vars : h.vars ≡ g.vars
  pub roots : (x : ℕ) → x < g.vars → h.root x ≡ g.root x
  pub edges : (n a : ℕ) → n < g.nodes → h.edge n a ≡ g.edge n a
  pub others : (n : ℕ) → n < g.nodes → (n ≡ s → ⊥) → state' n ≡ state n
  pub met : Meets m (λ o. (o ≡ state s) ⊎ (o ≡ some v)) (state' s)

-- the least congruence that joins s and t: whenever two nodes are joined, so are the targets of an attribute that both have
pub data Congruent (g : Graph) (s t : ℕ) : ℕ → ℕ → Type 0 where
  stated : Congruent g s t s t
  itself : {x : ℕ} → x < g.nodes → Congruent g s t x x
  turned : {x y : ℕ} → Congruent g s t x y → Congruent g s t y x
  chained : {x y z : ℕ} → Congruent g s t x y → Congruent g s t y z → Congruent g s t x z
  beneath : {x y u v a : ℕ} → Congruent g s t x y → g.edge x a ≡ some u → g.edge y a ≡ some v → Congruent g s t u v

-- h is g with s and t joined, and what lies beneath them, and nothing else; f sends each node of g to the node of h that it has become
pub record Quotient (m : Meaning) (s t : ℕ) (g : Graph) (state : ℕ → Option ℕ) (f : ℕ → ℕ) (h : Graph) (state' : ℕ → Option ℕ) : Type 0 where
  pub vars : h.vars ≡ g.vars
  pub inside : (x : ℕ) → x < g.nodes → f x < h.nodes
  pub onto : (k : ℕ) → k < h.nodes → (x : ℕ) × (x < g.nodes) × (f x ≡ k)
  pub roots : (x : ℕ) → x < g.vars → h.root x ≡ f (g.root x)
  pub edges : (x a y : ℕ) → x < g.nodes → g.edge x a ≡ some y → h.edge (f x) a ≡ some (f y)
  pub no_others : (k a j : ℕ) → k < h.nodes → h.edge k a ≡ some j → (x : ℕ) × (y : ℕ) × (x < g.nodes) × (f x ≡ k) × (g.edge x a ≡ some y) × (f y ≡ j)
  pub pair : f s ≡ f t
  pub nothing_else : (x y : ℕ) → x < g.nodes → y < g.nodes → f x ≡ f y → Congruent g s t x y
  pub met : (k : ℕ) → k < h.nodes → Meets m (λ o. (x : ℕ) × (x < g.nodes) × (f x ≡ k) × (o ≡ state x)) (state' k)
