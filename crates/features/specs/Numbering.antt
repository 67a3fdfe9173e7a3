-- Breadth-first numbering: the variables' nodes first, then, node by node, the targets of its attributes.
use Rattle.std.specs.Prelude.{◌≡◌, ℕ, ◌<◌, ◌⊎◌}
use Rattle.std.proofs.Math.Option.{some}
use Rattle.features.specs.Terms.{Term, only, ◌▸◌}
use Rattle.features.specs.Graphs.{Graph}
use Rattle.features.specs.Order.{Trail, InOrder}

-- a mention of a node: by a variable on it, or by an attribute of a numbered node that leads to it
pub data Mention : Type 0 where
  by_variable : ℕ → Mention
  by_attribute : ℕ → ℕ → Mention

abbrev pub Mentions : Graph → ℕ → Mention → Type 0
Mentions g n (by_variable x) = (x < g.vars) × (g.root x ≡ n)
Mentions g n (by_attribute i a) = (i < g.nodes) × (g.edge i a ≡ some n)

-- mentions by variables come first, by variable; then those by attributes, by the node's number and then by the attribute
abbrev pub Sooner : Mention → Mention → Type 0
Sooner (by_variable x) (by_variable y) = x < y
Sooner (by_variable x) (by_attribute j b) = Unit {0}
Sooner (by_attribute i a) (by_variable y) = ⊥
Sooner (by_attribute i a) (by_attribute j b) = (i < j) ⊎ ((i ≡ j) × (a < b))

pub record FirstMention (g : Graph) (n : ℕ) (k : Mention) : Type 0 where
  pub mentions : Mentions g n k
  pub none_sooner : (l : Mention) → Mentions g n l → Sooner l k → ⊥

-- nodes are numbered in the order of their first mentions, each attribute's by a node that has its number already
pub record BreadthFirst (g : Graph) : Type 0 where
  pub mentioned : (n : ℕ) → n < g.nodes → (k : Mention) × FirstMention g n k
  pub numbered_before : (n i a : ℕ) → n < g.nodes → FirstMention g n (by_attribute i a) → i < n
  pub rising : (n o : ℕ) (k l : Mention) → n < o → o < g.nodes → FirstMention g n k → FirstMention g o l → Sooner k l

-- attributes and variables lead to nodes of the graph
pub record Inside (g : Graph) : Type 0 where
  pub edges : (n a t : ℕ) → n < g.nodes → g.edge n a ≡ some t → t < g.nodes
  pub roots : (x : ℕ) → x < g.vars → g.root x < g.nodes

-- breadth-first numbers are in listing order
abbrev pub BreadthFirstInOrder : Type 0
BreadthFirstInOrder = (g : Graph) → Inside g → BreadthFirst g → InOrder g

-- numbers in listing order are breadth-first
abbrev pub InOrderBreadthFirst : Type 0
InOrderBreadthFirst = (g : Graph) → Inside g → InOrder g → BreadthFirst g

-- the trail of a node first mentioned by a variable is that variable; of one first mentioned by an attribute it is the
-- mentioning node's trail and that attribute
pub record TrailRule (g : Graph) : Type 0 where
  pub at_variable : (n x : ℕ) → n < g.nodes → FirstMention g n (by_variable x) → Trail g n (only x)
  pub at_attribute : (n i a : ℕ) (t : Term) → n < g.nodes → FirstMention g n (by_attribute i a) → Trail g i t → Trail g n (t ▸ a)

abbrev pub TrailsByFirstMention : Type 0
TrailsByFirstMention = (g : Graph) → Inside g → InOrder g → TrailRule g
