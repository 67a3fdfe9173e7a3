-- A turn of a loop that pops an entry and may push another: what holds of every entry that waits, and a weight that falls.
-- `before` waits as the turn begins, `popped` after the pop, and `after` after the push, which may have found no room.
use Rattle.std.proofs.Common.{◌≡◌, ℕ, ◌+◌, ◌<◌, ◌≤◌, Bool, cond, List, [], ◌∷◌, ◌++◌, sum_by, sym, ap, subst, arith}
use Rattle.std.specs.List.{AllByRecursion}
use Rattle.std.proofs.ByRecursion.{All-push}
use Rattle.std.proofs.lemmas.List.Sums.{sum_by-cons, sum_by_push}
use Rattle.std.proofs.lemmas.Bool.{cond_both}

module _ {X : Type 0} (P : X → Type 0) where
  pub popped_all : (before popped : List X) (x : X) → before ≡ x ∷ popped → AllByRecursion P before → P x × AllByRecursion P popped
  popped_all before popped x pop all = subst (AllByRecursion P) pop all

  pub pushed_all : (popped after : List X) (y : X) (r : Bool) → after ≡ cond r (popped ++ (y ∷ [])) popped
      → AllByRecursion P popped → P y → AllByRecursion P after
  pushed_all popped after y r push all h =
      subst (AllByRecursion P) (sym push) (cond_both r (popped ++ (y ∷ [])) popped (AllByRecursion P) (λ _. All-push P popped y all h) (λ _. all))

module _ {X : Type 0} (f : X → ℕ) (before popped : List X) (x : X) (pop : before ≡ x ∷ popped) where
  pub popped_lighter : 0 < f x → sum_by f popped < sum_by f before
  popped_lighter h = omega (arith, ap (sum_by f) pop, sum_by-cons f x popped)

  pub pushed_lighter : (after : List X) (y : X) (r : Bool) → after ≡ cond r (popped ++ (y ∷ [])) popped
      → f y < f x → sum_by f after < sum_by f before
  pushed_lighter after y r push h =
      let most : sum_by f (cond r (popped ++ (y ∷ [])) popped) ≤ sum_by f popped + f y =
      cond_both r (popped ++ (y ∷ [])) popped (λ v. sum_by f v ≤ sum_by f popped + f y)
      (λ _. omega (arith, sum_by_push f popped y)) (λ _. omega arith)
      in
      omega (arith, ap (sum_by f) pop, ap (sum_by f) push, sum_by-cons f x popped)
