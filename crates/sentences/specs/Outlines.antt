-- The boxed numbers of nodes.
use Rattle.std.specs.Prelude.{◌≡◌, ℕ, ◌+◌, ◌<◌, List, length, take, count_by, Option, Some, None, if◌then◌else◌}
use Rattle.std.specs.List.{HoldsAt}
use Rattle.sentences.specs.declared.outline.Node.{Node}

-- the number of the node at a position: those that are mentioned more than once are counted from 1
abbrev pub label_of : List Node → ℕ → Node → Option ℕ
label_of nodes i n = if n.shared then Some (count_by (λ m. m.shared) (take (i + 1) nodes)) else None

-- each node has its number
abbrev pub Numbered : List Node → Type 0
Numbered nodes = (i : ℕ) → i < length nodes → HoldsAt (λ n. n.label ≡ label_of nodes i n) nodes i
