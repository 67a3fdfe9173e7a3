use Rattle.std.proofs.Common.{◌≡◌, ℕ, ◌<◌, ◌≤◌, get_or}
use mathlib.Core.Option.{map}
use Rattle.tables.specs.Views.{edge_of, row}
use Rattle.joining.proofs.resolving.resolve_rows.Given as goal

abbrev pub invariant-loop-row : goal.invariant-loop-row
invariant-loop-row l =
    ((n : ℕ) → (row l.rows n).value ≡ (row l.initial.rows n).value)
    × ((n a : ℕ) → n < l.row-index → edge_of (row l.rows n) a ≡ map (λ x. get_or l.class x 0) (edge_of (row l.initial.rows n) a))
    × ((n : ℕ) → l.row-index ≤ n → row l.rows n ≡ row l.initial.rows n)
