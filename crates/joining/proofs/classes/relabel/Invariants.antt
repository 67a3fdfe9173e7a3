use Rattle.std.proofs.Common.{◌≡◌, ℕ, ◌≤◌, get_or}
use Rattle.joining.specs.Uniting.{Relabels}
use Rattle.joining.proofs.classes.relabel.Given as goal

abbrev pub invariant-loop-c : goal.invariant-loop-c
invariant-loop-c l =
    Relabels l.c-index (λ x. get_or l.initial.class x 0) l.to l.from (λ x. get_or l.class x 0)
    × ((k : ℕ) → l.c-index ≤ k → get_or l.class k 0 ≡ get_or l.initial.class k 0)
