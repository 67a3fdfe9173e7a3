-- What is left when a statement has been closed.
use Rattle.std.proofs.Math.Option.{Option}
use Rattle.std.specs.Prelude.{ℕ, List, [], ◌∷◌, ◌++◌, vec_len}
use Rattle.kinds.specs.Meaning.{Meaning}
use Rattle.features.specs.Terms.{Statement}
use Rattle.features.specs.Graphs.{Graph, SameGraph}
use Rattle.growth.specs.Standing.{Stands}
use Rattle.tables.specs.Views.{graph, values}
use Rattle.tables.specs.declared.table.Table.{Table}
use Rattle.joining.specs.Workspaces.{state}
use Rattle.numbering.specs.Given.{ord}
use Rattle.numbering.specs.Frontier.{Numbered, in_numbers}
use Rattle.closing.specs.declared.closer.Closer.{Closer}

-- the graph that came of it, in listing order
abbrev pub closed_graph : Closer → Graph
closed_graph c = in_numbers (graph c.work.table) c.numbers

-- what stands on its node k
abbrev pub closed_state : Closer → ℕ → Option ℕ
closed_state c k = state c.work (ord c.numbers k)

-- the nodes have numbers in listing order, and `next` holds them so
pub record Arranged (c : Closer) : Type 0 where
  pub numbered : Numbered (graph c.work.table) c.numbers
  pub same : SameGraph (graph c.next) (closed_graph c)

-- the statement was closed: whatever the table stood for, what came of it stands for that and the statement
pub record Closes (m : Meaning) (t : Table) (s : Statement) (c : Closer) : Type 0 where
  pub arranged : Arranged c
  pub stands : (said : List Statement) → Stands m (graph t) (values t) (vec_len t.roots) said
      → Stands m (closed_graph c) (closed_state c) (vec_len t.roots) (said ++ (s ∷ []))

-- the table was put in listing order: it stands for what it stood for
pub record Lists (m : Meaning) (t : Table) (c : Closer) : Type 0 where
  pub arranged : Arranged c
  pub stands : (said : List Statement) → Stands m (graph t) (values t) (vec_len t.roots) said
      → Stands m (closed_graph c) (closed_state c) (vec_len t.roots) said
