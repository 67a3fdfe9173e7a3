use Rattle.std.proofs.Common.{ℕ, ◌<◌}
use Rattle.growth.specs.Joins.{LeafAt}
use Rattle.closing.specs.Closings.{closed_graph, closed_state}
use Rattle.closing.proofs.closer.Closer.first_leaf.Given as goal

abbrev pub invariant-loop-k : goal.invariant-loop-k
invariant-loop-k g l = (j : ℕ) → j < l.k → LeafAt (g.K.Kind.meaning l.kind) (closed_graph l.self) (closed_state l.self) j → ⊥
