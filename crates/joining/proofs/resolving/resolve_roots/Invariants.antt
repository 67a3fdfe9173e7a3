use Rattle.std.proofs.Common.{◌≡◌, ℕ, ◌<◌, ◌≤◌, get_or}
use Rattle.joining.proofs.resolving.resolve_roots.Given as goal

abbrev pub invariant-loop-root : goal.invariant-loop-root
invariant-loop-root l =
    ((k : ℕ) → k < l.root-index → get_or l.roots k 0 ≡ get_or l.class (get_or l.initial.roots k 0) 0)
    × ((k : ℕ) → l.root-index ≤ k → get_or l.roots k 0 ≡ get_or l.initial.roots k 0)
