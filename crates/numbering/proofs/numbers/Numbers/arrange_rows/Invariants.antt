use Rattle.std.proofs.Common.{◌≡◌, ℕ, ◌<◌, ◌≤◌, vec_capacity, vec_len}
use Rattle.tables.specs.Views.{graph}
use Rattle.numbering.specs.Arranged.{Moved}
use Rattle.numbering.proofs.numbers.Numbers.arrange_rows.Given as goal

abbrev pub invariant-loop-listed : goal.invariant-loop-listed
invariant-loop-listed l =
    ((k : ℕ) → k < l.listed-index → Moved (graph l.from) l.self l.into k)
    × (vec_len l.into.rows ≡ l.listed-index) × (272 ≤ vec_capacity l.into.rows) × (l.into.roots ≡ l.initial.into.roots)
