-- What stands on a node, by what is at or below it.
use mathlib.Core.Logic.{◌↔◌}
use mathlib.Core.Option.{Option, some, none}
use mathlib.Core.List.{List}
use Prim.Native.Nat.{ℕ}
use Rattle.kinds.specs.Meaning.{Meaning, Lawful}
use Rattle.features.specs.Terms.{Term, Statement}
use Rattle.features.specs.Closing.{Under}
use Rattle.growth.specs.Standing.{Judged, greatest, void, Fits, FitsAll, Meets}

module _ (m : Meaning) (vars : ℕ) (said : List Statement) (p : Term) where
  -- what fits what stands on a node is at or below all that came to it
  pub fits_under : Lawful m → {o : Option ℕ} → Judged m vars said p o → (v : ℕ) → Fits m v o ↔ Under m vars said p v
  fits_under lawful (greatest {v = w} valued) v = (λ below c came. lawful.trans v w c below (valued.0 c came), valued.1 v)
  fits_under lawful (void nothing) v = (λ fits. absurd fits, nothing v)

  -- the greatest of what fits all of P stands where just that is at or below all that came
  pub meets_judged : (P : Option ℕ → Type 0) → ((v : ℕ) → FitsAll m P v ↔ Under m vars said p v) → (o : Option ℕ) → Meets m P o → Judged m vars said p o
  meets_judged P same (some v) meets = greatest ((same v).0 meets.0, λ u under. meets.1 u ((same u).1 under))
  meets_judged P same none meets = void (λ v under. meets v ((same v).1 under))

-- what is greatest of all that fits is so of all that fits the same
pub meets_same : (m : Meaning) (P Q : Option ℕ → Type 0) → ((o : Option ℕ) → P o ↔ Q o) → (o : Option ℕ) → Meets m P o → Meets m Q o
meets_same m P Q same (some v) meets = (λ o q. meets.0 o ((same o).1 q), λ u all. meets.1 u (λ o p. all o ((same o).0 p)))
meets_same m P Q same none meets = λ v all. meets v (λ o p. all o ((same o).0 p))
