-- A closed graph that is ready to be judged.
use Rattle.std.specs.Prelude.{◌≡◌, ℕ, List}
use mathlib.Core.List.{Memᴰ}
use Rattle.kinds.specs.Meaning.{Meaning}
use Rattle.features.specs.Terms.{Statement}
use Rattle.features.specs.Holding.{Proper, aparts_of}
use Rattle.growth.specs.Standing.{Stands}
use Rattle.closing.specs.declared.closer.Closer.{Closer}
use Rattle.closing.specs.Closings.{closed_graph, closed_state}

-- it stands for statements that no call would refuse for their terms or values, of which these are the aparts
pub record Ready (m : Meaning) (kept : List Statement) (c : Closer) (vars : ℕ) (said : List Statement) : Type 0 where
  pub stands : Stands m (closed_graph c) (closed_state c) vars said
  pub proper : (s : Statement) → Memᴰ s said → Proper m vars s
  pub aparts : kept ≡ aparts_of said
