-- No clash comes by a right answer, so a call that answers right and holds what it should keeps its promise.
use Rattle.std.proofs.Common.{◌≡◌, ℕ, List, [], Ok, arith}
use mathlib.Core.List.Memᴰ
use Rattle.kinds.specs.Meaning.{Meaning, Lawful}
use Rattle.features.specs.Terms.{Term, Statement}
use Rattle.features.specs.Graphs.{Graph}
use Rattle.features.specs.Closing.{Joined}
use Rattle.features.specs.Holding.{Holds}
use Rattle.features.specs.Theorems.{NoClash}
use Rattle.features.proofs.Closure.{broken_is}
use Rattle.answers.specs.Answers.{Call, Answer, Right, Stated, Closed, Idle, vars_after, said_after}
use Rattle.answers.specs.Answers.{no_value, leaf_branches, not_apart, too_many, accepted, faultless, no_variable, no_node, numbered, declared, stated, same, value, listed}
use Rattle.answers.specs.Runs.{asked, Has, Step}
use Rattle.answers.proofs.Declaring.{joined_declared, no_clash_declared}

-- with no variable and nothing said no term denotes
pub nothing_denotes : (m : Meaning) {p q : Term} → Joined 0 [] p q → ⊥
nothing_denotes m {p} {q} j = let l = (joined_declared m 0 [] (λ s i. absurd (Memᴰ.not-nil i)) j).0 in omega arith

pub no_clash_at_first : (m : Meaning) → NoClash m 0 []
no_clash_at_first m = record {
  valued = λ t first nothing. nothing_denotes m first.denotes;
  leaves_bare = λ t first branches. nothing_denotes m first.denotes;
  aparts_kept = λ i broken. nothing_denotes m (broken_is m 0 [] broken).3;
}

-- what was accepted does not clash
pub no_clash_accepted : {m : Meaning} {vars : ℕ} {said : List Statement} {before after : List ℕ} → Closed m vars said before (Ok tt) after → NoClash m vars said
no_clash_accepted (accepted free few) = free

-- a right answer leaves no clash where there was none
pub no_clash_after : (m : Meaning) → Lawful m → (g : Graph) (kept : List Statement) (vars : ℕ) (said : List Statement) {c : Call} {a : Answer}
    → Holds m g kept vars said → NoClash m vars said → Right m vars said c a → NoClash m (vars_after vars a) (said_after said c a)
no_clash_after m lawful g kept vars said holds free (declared (no_variable full)) = free
no_clash_after m lawful g kept vars said holds free (declared (no_node room many)) = free
no_clash_after m lawful g kept vars said holds free (declared (numbered room few)) = no_clash_declared m lawful g kept vars said holds free
no_clash_after m lawful g kept vars said holds free (stated (Stated.faulty e)) = free
no_clash_after m lawful g kept vars said holds free (stated (faultless e (no_value t at))) = free
no_clash_after m lawful g kept vars said holds free (stated (faultless e (leaf_branches t n at))) = free
no_clash_after m lawful g kept vars said holds free (stated (faultless e (not_apart i n l b least))) = free
no_clash_after m lawful g kept vars said holds free (stated (faultless e (too_many none many))) = free
no_clash_after m lawful g kept vars said holds free (stated (faultless e (accepted none few))) = none
no_clash_after m lawful g kept vars said holds free (same s) = free
no_clash_after m lawful g kept vars said holds free (value v) = free
no_clash_after m lawful g kept vars said holds free (listed l) = free

module _ {S : Type 0} (graph : S → Graph) (kept : S → List Statement) (m : Meaning) where
  -- what holds nothing said
  pub fresh : (s : S) → Holds m (graph s) (kept s) 0 [] → Has graph kept m s 0 []
  fresh s holds = record { holds = holds; no_clash = no_clash_at_first m }

  -- a right answer, and what is said after it held: that is a step
  pub step_taken : Lawful m → (s t : S) (c : Call) (a : Answer)
      → ((vars : ℕ) (said : List Statement) → Has graph kept m s vars said → Right m vars said c a)
      → ((vars : ℕ) (said : List Statement) → Has graph kept m s vars said → Holds m (graph t) (kept t) (vars_after vars a) (said_after said c a))
      → (Idle a → (graph t ≡ graph s) × (kept t ≡ kept s)) → Step graph kept m s (asked c a) t
  step_taken lawful s t c a right holds unaltered = record {
    right = right;
    holds = λ vars said has. record { holds = holds vars said has; no_clash = no_clash_after m lawful (graph s) (kept s) vars said has.holds has.no_clash (right vars said has) };
    unaltered = unaltered;
  }
