use Rattle.std.proofs.Common.{ℕ, ◌<◌, drop, vec_len}
use Rattle.features.specs.Graphs.{Leads}
use Rattle.tables.specs.Views.{graph}
use Rattle.tables.proofs.table.Table.find.Given as goal

-- the path leads to the same node from the start as the rest of it does from here
abbrev pub invariant-loop-attribute : goal.invariant-loop-attribute
invariant-loop-attribute l =
    (l.node < vec_len l.self.rows)
    × ((n : ℕ) → Leads (graph l.self) l.node (drop l.attribute-index l.path) n → Leads (graph l.self) l.from l.path n)
    × ((n : ℕ) → Leads (graph l.self) l.from l.path n → Leads (graph l.self) l.node (drop l.attribute-index l.path) n)
