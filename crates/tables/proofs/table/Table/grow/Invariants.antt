use Rattle.std.proofs.Common.{◌≡◌, ℕ, ◌+◌, ◌<◌, ◌≤◌, drop, vec_len}
use mathlib.Core.Option.{Option}
use Rattle.features.specs.Graphs.{Graph}
use Rattle.features.specs.Holding.{Small}
use Rattle.growth.specs.Changes.{Grown}
use Rattle.tables.specs.Views.{graph, values, Sound}
use Rattle.tables.proofs.table.Table.grow.Given as goal

-- whatever the rest of the path makes from here, the path makes from the start
abbrev pub invariant-loop-attribute : goal.invariant-loop-attribute
invariant-loop-attribute l =
    (l.node < vec_len l.self.rows) × (vec_len l.initial.self.rows ≤ vec_len l.self.rows) × (vec_len l.self.rows ≤ vec_len l.initial.self.rows + l.attribute-index) × (vec_len l.self.roots ≡ vec_len l.initial.self.roots)
    × (l.self.roots ≡ l.initial.self.roots) × Sound l.self × Small (drop l.attribute-index l.path)
    × ((h : Graph) (state : ℕ → Option ℕ) (e : ℕ)
    → Grown l.top (graph l.self) (values l.self) l.node (drop l.attribute-index l.path) h state e
    → Grown l.top (graph l.initial.self) (values l.initial.self) l.from l.path h state e)
