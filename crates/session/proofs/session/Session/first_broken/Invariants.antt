use Rattle.std.proofs.Common.{ℕ, ◌<◌}
use Rattle.growth.specs.Joins.{ApartOnOne}
use Rattle.tables.specs.Views as tables
use Rattle.session.specs.Sessions.{kept}
use Rattle.session.proofs.session.Session.first_broken.Given as goal

-- none of those tried is on one node
abbrev pub invariant-loop-i : goal.invariant-loop-i
invariant-loop-i g l = (j : ℕ) → j < l.i → ApartOnOne (tables.graph l.table) (kept l.self) j → ⊥
