use Rattle.std.proofs.Common.{◌+◌, ◌*◌, length, vec_len}
use Rattle.queue.specs.Waiting.{waiting, capacity}
use Rattle.joining.specs.Uniting.{representatives}
use Rattle.joining.specs.Workspaces.{rep}
use Rattle.joining.proofs.Turns.{Midway}
use Rattle.joining.proofs.workspace.Workspace.settle.Given as goal

abbrev pub invariant-loop-pair : goal.invariant-loop-pair
invariant-loop-pair g l = Midway (g.K.Kind.meaning l.kind) l.left l.right l.initial.self l.self (waiting l.queue) (capacity l.queue)

-- a join takes one representative away, and lets at most 32 pairs wait
abbrev pub decreases-loop-pair : goal.decreases-loop-pair
decreases-loop-pair g l = length (waiting l.queue) + 33 * representatives (rep l.self) (vec_len l.initial.self.table.rows)
