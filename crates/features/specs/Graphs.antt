-- Finite feature graphs, what they satisfy, and the maps between them.
use Rattle.std.specs.Prelude.{◌≡◌, ℕ, ◌<◌, ◌≤◌, true, List, [], ◌∷◌}
use mathlib.Core.List.{Memᴰ}
use Rattle.std.proofs.Math.Option.{Option, some, none}
use Rattle.kinds.specs.Meaning.{Meaning}
use Rattle.features.specs.Terms.{Term, Statement, equals, is, apart}

pub record Graph : Type 0 where
  pub nodes : ℕ
  pub value : ℕ → ℕ
  pub edge : ℕ → ℕ → Option ℕ
  pub vars : ℕ
  pub root : ℕ → ℕ

pub record Feature (m : Meaning) (g : Graph) : Type 0 where
  pub values : (n : ℕ) → n < g.nodes → m.value (g.value n) ≡ true
  pub edges : (n a t : ℕ) → n < g.nodes → g.edge n a ≡ some t → (a < 32) × (t < g.nodes)
  pub roots : (x : ℕ) → x < g.vars → g.root x < g.nodes
  pub leaves : (n a : ℕ) → n < g.nodes → m.leaf (g.value n) ≡ true → g.edge n a ≡ none

-- where a path leads
pub data Leads (g : Graph) : ℕ → List ℕ → ℕ → Type 0 where
  here : {n : ℕ} → Leads g n [] n
  step : {n a k t : ℕ} {rest : List ℕ} → g.edge n a ≡ some k → Leads g k rest t → Leads g n (a ∷ rest) t

abbrev pub Denotes : Graph → Term → ℕ → Type 0
Denotes g t n = (t.var < g.vars) × Leads g (g.root t.var) t.path n

abbrev pub Satisfies : Meaning → Graph → Statement → Type 0
Satisfies m g (equals p q) = (n : ℕ) × Denotes g p n × Denotes g q n
Satisfies m g (is p v) = (n : ℕ) × Denotes g p n × (m.below (g.value n) v ≡ true)
Satisfies m g (apart p q) = (n : ℕ) → Denotes g p n → Denotes g q n → ⊥

pub record Model (m : Meaning) (vars : ℕ) (said : List Statement) (g : Graph) : Type 0 where
  pub feature : Feature m g
  pub declared : vars ≤ g.vars
  pub satisfies : (s : Statement) → Memᴰ s said → Satisfies m g s

pub record Map (m : Meaning) (g h : Graph) (f : ℕ → ℕ) : Type 0 where
  pub enough : g.vars ≤ h.vars
  pub inside : (n : ℕ) → n < g.nodes → f n < h.nodes
  pub roots : (x : ℕ) → x < g.vars → f (g.root x) ≡ h.root x
  pub edges : (n a t : ℕ) → n < g.nodes → g.edge n a ≡ some t → h.edge (f n) a ≡ some (f t)
  pub values : (n : ℕ) → n < g.nodes → m.below (h.value (f n)) (g.value n) ≡ true

abbrev pub OneMap : Meaning → Graph → Graph → Type 0
OneMap m g h = (f : ℕ → ℕ) × Map m g h f × ((k : ℕ → ℕ) → Map m g h k → (n : ℕ) → n < g.nodes → k n ≡ f n)

-- equal graphs: node by node, attribute by attribute, variable by variable
pub record SameGraph (g h : Graph) : Type 0 where
  pub nodes : g.nodes ≡ h.nodes
  pub vars : g.vars ≡ h.vars
  pub values : (n : ℕ) → n < g.nodes → g.value n ≡ h.value n
  pub edges : (n a : ℕ) → n < g.nodes → g.edge n a ≡ h.edge n a
  pub roots : (x : ℕ) → x < g.vars → g.root x ≡ h.root x
