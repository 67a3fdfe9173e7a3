-- The graph and the aparts of a session.
use Rattle.std.specs.Prelude.{List, map, vec_items}
use Rattle.features.specs.Terms.{Statement}
use Rattle.features.specs.Graphs.{Graph}
use Rattle.tables.specs.Views as tables
use Rattle.session.specs.Parts.{kept_apart}
use Rattle.kinds.specs.declared.kind.Kind.{Ghosts}
use Rattle.session.specs.declared.session.Session.{Session}

module _ {K : Type 0} {G : Ghosts K} where
  abbrev pub graph : Session K G → Graph
  graph s = tables.graph s.table

  abbrev pub kept : Session K G → List Statement
  kept s = map kept_apart (vec_items s.aparts)
