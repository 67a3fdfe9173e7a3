use Rattle.std.proofs.Common.{◌≡◌, ℕ, ◌<◌, true, get_or, length}
use Rattle.graphs.specs.Held.{graph_of}
use Rattle.comparing.proofs.images.Mapping.values_below.Given as goal

abbrev pub invariant-loop-row : goal.invariant-loop-row
invariant-loop-row g l =
    (n : ℕ) → n < length l.yielded →
    (g.K.Kind.meaning l.kind).below ((graph_of l.self.into.now).value (get_or l.images n 0)) ((graph_of l.self.from.now).value n) ≡ true
