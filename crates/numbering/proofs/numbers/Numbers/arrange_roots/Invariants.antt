use Rattle.std.proofs.Common.{◌≡◌, ℕ, ◌<◌, ◌≤◌, vec_capacity, vec_len}
use Rattle.tables.specs.Views.{graph}
use Rattle.numbering.specs.Frontier.{in_numbers}
use Rattle.numbering.proofs.numbers.Numbers.arrange_roots.Given as goal

abbrev pub invariant-loop-root : goal.invariant-loop-root
invariant-loop-root l =
    ((x : ℕ) → x < l.root-index → (graph l.into).root x ≡ (in_numbers (graph l.from) l.self).root x)
    × (vec_len l.into.roots ≡ l.root-index) × (64 ≤ vec_capacity l.into.roots) × (l.into.rows ≡ l.initial.into.rows)
