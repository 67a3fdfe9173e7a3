-- The greatest value at or below all of two collections, from the greatest of each.
use Rattle.std.proofs.Common.{◌≡◌, ℕ, true, ◌⊎◌, Some, None, Option as Maybe, sym, refl, subst, inl, inr}
use mathlib.Core.Option.{Option, some, none}
use Rattle.kinds.specs.Meaning.{Meaning, Lawful}
use Rattle.kinds.specs.Meets.{MeetOfTwo}
use Rattle.growth.specs.Standing.{Fits, FitsAll, Meets}
use Rattle.joining.specs.Workspaces.{standing}

-- collections with the same values at or below them have the same greatest one
pub meets_same : (m : Meaning) (P Q : Option ℕ → Type 0) → ((v : ℕ) → FitsAll m P v → FitsAll m Q v) → ((v : ℕ) → FitsAll m Q v → FitsAll m P v)
    → (o : Option ℕ) → Meets m P o → Meets m Q o
meets_same m P Q to from (some v) (fits, greatest) = (to v fits, λ u all. greatest u (from u all))
meets_same m P Q to from none nothing = λ v all. nothing v (from v all)

-- what is at or below all is at or below the greatest
pub meets_fits : (m : Meaning) (P : Option ℕ → Type 0) (o : Option ℕ) → Meets m P o → (v : ℕ) → FitsAll m P v → Fits m v o
meets_fits m P (some w) (fits, greatest) v all = greatest v all
meets_fits m P none nothing v all = nothing v all

fits_trans : (m : Meaning) → Lawful m → (v w : ℕ) (o : Option ℕ) → m.below v w ≡ true → Fits m w o → Fits m v o
fits_trans m lawful v w (some u) l f = lawful.trans v w u l f
fits_trans m lawful v w none l f = f

-- what is at or below the greatest is at or below all
pub fits_meets : (m : Meaning) → Lawful m → (P : Option ℕ → Type 0) (o : Option ℕ) → Meets m P o → (v : ℕ) → Fits m v o → FitsAll m P v
fits_meets m lawful P (some w) (fits, greatest) v f = λ o p. fits_trans m lawful v w o f (fits o p)
fits_meets m lawful P none nothing v f = absurd f

module _ (m : Meaning) (lawful : Lawful m) (P Q R : Option ℕ → Type 0) (o o' : Option ℕ) (meets : Meets m P o) (meets' : Meets m Q o')
    (split : (z : Option ℕ) → R z → P z ⊎ Q z) (left : (z : Option ℕ) → P z → R z) (right : (z : Option ℕ) → Q z → R z) where
  all_of_two : (v : ℕ) → FitsAll m (λ z. (z ≡ o) ⊎ (z ≡ o')) v → FitsAll m R v
  all_of_two v all z r = by_side (split z r)
    where
      by_side : P z ⊎ Q z → Fits m v z
      by_side (inl p) = fits_meets m lawful P o meets v (all o (inl refl)) z p
      by_side (inr q) = fits_meets m lawful Q o' meets' v (all o' (inr refl)) z q

  two_of_all : (v : ℕ) → FitsAll m R v → FitsAll m (λ z. (z ≡ o) ⊎ (z ≡ o')) v
  two_of_all v all z (inl e) = subst (λ (y : Option ℕ). Fits m v y) (sym e) (meets_fits m P o meets v (λ y p. all y (left y p)))
  two_of_all v all z (inr e) = subst (λ (y : Option ℕ). Fits m v y) (sym e) (meets_fits m Q o' meets' v (λ y q. all y (right y q)))

  pub meets_both : (r : Option ℕ) → Meets m (λ z. (z ≡ o) ⊎ (z ≡ o')) r → Meets m R r
  meets_both r = meets_same m (λ z. (z ≡ o) ⊎ (z ≡ o')) R all_of_two two_of_all r

-- a value alone is its own greatest
pub meets_alone : (m : Meaning) → Lawful m → (P : Option ℕ → Type 0) (o : Option ℕ) → ((v : ℕ) → o ≡ some v → m.value v ≡ true)
    → P o → ((z : Option ℕ) → P z → z ≡ o) → Meets m P o
meets_alone m lawful P (some v) value p only =
    (λ z q. subst (λ (y : Option ℕ). Fits m v y) (sym (only z q)) (lawful.same v (value v refl)), λ u all. all (some v) p)
meets_alone m lawful P none value p only = λ v all. all none p

-- the meet of a kind, taken as what stands on a row
pub meets_two : (m : Meaning) (a b : ℕ) (r : Maybe ℕ) → MeetOfTwo m a b r → Meets m (λ o. (o ≡ some a) ⊎ (o ≡ some b)) (standing r)
meets_two m a b (Some v) (both, greatest) = (fits, λ u all. greatest u (all (some a) (inl refl), all (some b) (inr refl)))
  where
    fits : FitsAll m (λ o. (o ≡ some a) ⊎ (o ≡ some b)) v
    fits o (inl e) = subst (λ (y : Option ℕ). Fits m v y) (sym e) both.0
    fits o (inr e) = subst (λ (y : Option ℕ). Fits m v y) (sym e) both.1
meets_two m a b None nothing = λ v all. nothing v (all (some a) (inl refl), all (some b) (inr refl))

pub meets_states : (m : Meaning) (a b r : Maybe ℕ) (x y : ℕ) → a ≡ Some x → b ≡ Some y → MeetOfTwo m x y r
    → Meets m (λ o. (o ≡ standing a) ⊎ (o ≡ standing b)) (standing r)
meets_states m a b r x y e f meet =
    subst (λ (z : Maybe ℕ). Meets m (λ o. (o ≡ standing z) ⊎ (o ≡ standing b)) (standing r)) (sym e)
    (subst (λ (z : Maybe ℕ). Meets m (λ o. (o ≡ some x) ⊎ (o ≡ standing z)) (standing r)) (sym f) (meets_two m x y r meet))
