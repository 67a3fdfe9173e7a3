use Rattle.std.proofs.Common.{◌≡◌, ◌≤◌, ℕ, ◌<◌, take, get_or, count_by}
use Rattle.sentences.specs.declared.outline.Node.{Node}
use Rattle.sentences.specs.Outlines.{label_of}
use Rattle.sentences.proofs.outlining.number.Given as goal

abbrev pub invariant-loop-node : goal.invariant-loop-node
invariant-loop-node l =
    (l.last ≤ l.node-index)
    × (l.last ≡ count_by (λ m. m.shared) (take l.node-index l.initial.nodes))
    × ((k : ℕ) (d : Node) → (get_or l.nodes k d).shared ≡ (get_or l.initial.nodes k d).shared)
    × ((k : ℕ) (d : Node) → k < l.node-index → (get_or l.nodes k d).label ≡ label_of l.initial.nodes k (get_or l.initial.nodes k d))
