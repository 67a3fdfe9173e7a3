use Rattle.std.proofs.Common.{◌≡◌, ℕ, ◌<◌}
use mathlib.Core.Option.{none}
use Rattle.closing.specs.Closings.{closed_state}
use Rattle.closing.proofs.closer.Closer.first_void.Given as goal

abbrev pub invariant-loop-k : goal.invariant-loop-k
invariant-loop-k l = (j : ℕ) → j < l.k → closed_state l.self j ≡ none → ⊥
