use Rattle.std.proofs.Common.{◌≡◌, ℕ, ◌+◌, ◌<◌, ◌≤◌, List, ◌++◌, reverse, length, drop, vec_len}
use Rattle.features.specs.Terms.{Term}
use Rattle.numbering.specs.Traces.{Traced}
use Rattle.numbering.proofs.Tracing.{Passed}
use Rattle.numbering.proofs.numbers.Numbers.trail.Given as goal

abbrev pub invariant-loop-variable : goal.invariant-loop-variable
invariant-loop-variable l =
    (l.at < vec_len l.self.listed) × (l.count + l.at ≤ l.k)
    × ((t : Term) → Traced l.self l.k t → (rest : List ℕ) × Passed l.self t l.at rest × (length rest ≡ l.count) × (l.out ≡ reverse rest ++ drop l.count l.initial.out))

abbrev pub decreases-loop-variable : goal.decreases-loop-variable
decreases-loop-variable l = l.at
