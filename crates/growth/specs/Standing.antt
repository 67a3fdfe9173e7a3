-- A graph in which every node has either a value or a contradiction, and which stands for what was said: the graph of a session
-- while a statement is being closed, before it is known whether the statement is accepted.
use Rattle.std.specs.Prelude.{◌≡◌, true, List, ℕ}
use Rattle.std.proofs.Math.Option.{Option, some, none}
use Rattle.kinds.specs.Meaning.{Meaning}
use Rattle.features.specs.Terms.{Term, Statement}
use Rattle.features.specs.Graphs.{Graph, Denotes}
use Rattle.features.specs.Closing.{Valued}
pub use Rattle.features.specs.Holding.{Shape}
use Rattle.features.specs.Clashes.{NoValue}

-- what stands on the node of p: the greatest value at or below all that came to it, or nothing where there is no such value
pub data Judged (m : Meaning) (vars : ℕ) (said : List Statement) (p : Term) : Option ℕ → Type 0 where
  greatest : {v : ℕ} → Valued m vars said p v → Judged m vars said p (some v)
  void : NoValue m vars said p → Judged m vars said p none

-- `state n` is what stands on node n
pub record Stands (m : Meaning) (g : Graph) (state : ℕ → Option ℕ) (vars : ℕ) (said : List Statement) : Type 0 where
  pub shape : Shape g vars said
  pub judged : (p : Term) (n : ℕ) → Denotes g p n → Judged m vars said p (state n)

-- v is at or below what stands on a node; nothing is where that is a contradiction
abbrev pub Fits : Meaning → ℕ → Option ℕ → Type 0
Fits m v (some w) = m.below v w ≡ true
Fits m v none = ⊥

-- v is at or below all of P
abbrev pub FitsAll : Meaning → (Option ℕ → Type 0) → ℕ → Type 0
FitsAll m P v = (o : Option ℕ) → P o → Fits m v o

-- the greatest value at or below all of P, or none where there is none
abbrev pub Meets : Meaning → (Option ℕ → Type 0) → Option ℕ → Type 0
Meets m P (some v) = FitsAll m P v × ((u : ℕ) → FitsAll m P u → m.below u v ≡ true)
Meets m P none = (v : ℕ) → FitsAll m P v → ⊥
