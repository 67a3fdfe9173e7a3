-- Statements that follow from the others change nothing.
use mathlib.Core.Path.{refl, sym, subst}
use mathlib.Core.Logic.{◌⊎◌, inl, inr}
use mathlib.Core.Option.{Option}
use mathlib.Core.List.Memᴰ
use mathlib.Core.List.{List, [], ◌∷◌, ◌++◌, Memᴰ}
use Prim.Native.Nat.{ℕ, ◌≤◌}
use native.Mathlib.Omega.{arith}
use Rattle.kinds.specs.Meaning.{Meaning}
use Rattle.features.specs.Terms.{Term, Statement, equals, is, apart}
use Rattle.features.specs.Graphs.{Graph}
use Rattle.features.specs.Closing.{Joined, variable, stated, given, turned, chained, begun, beneath, Came, top, said_of}
use Rattle.features.proofs.Closure.{came_along}
use Rattle.growth.specs.Standing.{Judged, greatest, void, Stands}
use Rattle.growth.specs.Theorems.{Follows, AllFollow, SayingTheSameStandsAlike}

-- a statement follows from those that it is one of
pub said_follows : (m : Meaning) (vars : ℕ) {said : List Statement} (s : Statement) → Memᴰ s said → Follows m vars said s
said_follows m vars (equals p q) i = stated p q i
said_follows m vars (is p v) i = (given p v i, said_of p v i (given p v i))
said_follows m vars (apart p q) i = tt

-- what follows from fewer variables and statements follows from more
module _ {m : Meaning} {vars vars' : ℕ} {said said' : List Statement} (le : vars ≤ vars') (each : AllFollow m vars' said' said) where
  pub joined_widens : {p q : Term} → Joined vars said p q → Joined vars' said' p q
  joined_widens (variable x h) = variable x (omega arith)
  joined_widens (stated p q i) = each (equals p q) i
  joined_widens (given p v i) = (each (is p v) i).0
  joined_widens (turned p q j) = turned p q (joined_widens j)
  joined_widens (chained p q r j k) = chained p q r (joined_widens j) (joined_widens k)
  joined_widens (begun p q a j) = begun p q a (joined_widens j)
  joined_widens (beneath p q a j k) = beneath p q a (joined_widens j) (joined_widens k)

  pub came_widens : {p : Term} {w : ℕ} → Came m vars said p w → Came m vars' said' p w
  came_widens top = top
  came_widens {p} (said_of q v i j) = came_along m vars' said' (turned p q (joined_widens j)) (each (is q v) i).1

-- what stands on a node depends only on what came to it
pub judged_same : {m : Meaning} {vars vars' : ℕ} {said said' : List Statement} {p q : Term} {o : Option ℕ} → ((w : ℕ) → Came m vars said p w → Came m vars' said' q w) → ((w : ℕ) → Came m vars' said' q w → Came m vars said p w) → Judged m vars said p o → Judged m vars' said' q o
judged_same forth back (greatest valued) = greatest (λ w c. valued.0 w (back w c), λ u under. valued.1 u (λ w c. under w (forth w c)))
judged_same forth back (void none) = void (λ v under. none v (λ w c. under w (forth w c)))

pub stands_same : SayingTheSameStandsAlike
stands_same m g state vars said said' more less stands = record {
  shape = record {
    all = stands.shape.all;
    joined = λ p q j. stands.shape.joined p q (joined_widens {m = m} (omega arith) more j);
    nothing_else = λ p q n d e. joined_widens {m = m} (omega arith) less (stands.shape.nothing_else p q n d e);
    reached = stands.shape.reached;
    inside = stands.shape.inside;
  };
  judged = λ p n d. judged_same (λ w c. came_widens (omega arith) less c) (λ w c. came_widens (omega arith) more c) (stands.judged p n d);
}

module _ (m : Meaning) (vars : ℕ) where
  -- what was said follows when more was said
  pub front_follows : (said : List Statement) (t : Statement) → AllFollow m vars (said ++ (t ∷ [])) said
  front_follows said t s i = said_follows m vars s (Memᴰ.append_left (t ∷ []) i)

  pub last_follows : (said : List Statement) (t : Statement) → Follows m vars (said ++ (t ∷ [])) t
  last_follows said t = said_follows m vars t (Memᴰ.append_right said (Memᴰ.head refl))

  -- statements and one more follow where the statements and the one follow
  pub both_follow : {from : List Statement} (said : List Statement) (t : Statement) → AllFollow m vars from said → Follows m vars from t → AllFollow m vars from (said ++ (t ∷ []))
  both_follow {from} said t all one s i = pick (Memᴰ.append_cases said i)
    where
      pick : Memᴰ s said ⊎ Memᴰ s (t ∷ []) → Follows m vars from s
      pick (inl j) = all s j
      pick (inr j) = subst (Follows m vars from) (sym (Memᴰ.eq_of_singleton j)) one

  module _ (g : Graph) (state : ℕ → Option ℕ) (said : List Statement) where
    -- what follows may be said
    pub following_added : (t : Statement) → Follows m vars said t → Stands m g state vars said → Stands m g state vars (said ++ (t ∷ []))
    following_added t follows stands =
        stands_same m g state vars said (said ++ (t ∷ [])) (both_follow said t (said_follows m vars) follows) (front_follows said t) stands

    -- what follows from the others may be left out
    pub following_dropped : (s t : Statement) → Follows m vars (said ++ (t ∷ [])) s → Stands m g state vars ((said ++ (s ∷ [])) ++ (t ∷ [])) → Stands m g state vars (said ++ (t ∷ []))
    following_dropped s t follows stands =
        stands_same m g state vars _ _
        (both_follow said t (λ r i. said_follows m vars r (Memᴰ.append_left (t ∷ []) (Memᴰ.append_left (s ∷ []) i))) (last_follows (said ++ (s ∷ [])) t))
        (both_follow (said ++ (s ∷ [])) t (both_follow said s (front_follows said t) follows) (last_follows said t))
        stands
