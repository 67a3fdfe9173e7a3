-- The aparts that a session keeps: how many, one more, and which of them are on one node.
use Rattle.std.proofs.Common.{◌≡◌, ℕ, zero, suc, ◌+◌, ◌<◌, List, [], ◌∷◌, ◌++◌, map, length, get_or, vec_items, vec_len, sym, ap, ◌∙◌, subst, subst₂, arith, below_more}
use mathlib.Core.List.{map-append}
use lib.ListN.{length-map}
use Rattle.features.specs.Terms.{Term, apart}
use Rattle.features.specs.Graphs.{Graph}
use Rattle.growth.specs.Joins.{OneNode, ApartOnOne}
use Rattle.kinds.specs.declared.kind.Kind.{Ghosts}
use Rattle.session.specs.declared.parts.Apart.{Apart}
use Rattle.session.specs.declared.session.Session.{Session}
use Rattle.session.specs.Parts.{kept_apart}
use Rattle.session.specs.Sessions.{kept}

pub kept_count : {K : Type 0} {G : Ghosts K} (s : Session K G) → length (kept s) ≡ vec_len s.aparts
kept_count s = length-map (vec_items s.aparts) kept_apart ∙ sym s.aparts.ok.0

-- one more is kept at the end
pub kept_more : (xs ys : List Apart) (x : Apart) (p q : Term) → ys ≡ xs ++ (x ∷ []) → x.left ≡ p → x.right ≡ q
    → map kept_apart ys ≡ map kept_apart xs ++ (apart p q ∷ [])
kept_more xs ys x p q e left right = ap (map kept_apart) e ∙ map-append kept_apart xs (x ∷ []) ∙ (λ i. map kept_apart xs ++ (apart (left i) (right i) ∷ []))

-- the apart at a place is on one node exactly where its two terms are
on_one_there : (g : Graph) (xs : List Apart) (i : ℕ) (x : Apart) → i < length xs → x ≡ get_or xs i x
    → OneNode g x.left x.right → ApartOnOne g (map kept_apart xs) i
on_one_there g [] i x l e d = absurd (omega arith)
on_one_there g (y ∷ ys) zero x l e d = subst (λ (z : Apart). OneNode g z.left z.right) e d
on_one_there g (y ∷ ys) (suc i) x l e d = on_one_there g ys i x (omega arith) e d

there_on_one : (g : Graph) (xs : List Apart) (i : ℕ) (x : Apart) → i < length xs → x ≡ get_or xs i x
    → ApartOnOne g (map kept_apart xs) i → OneNode g x.left x.right
there_on_one g [] i x l e d = absurd (omega arith)
there_on_one g (y ∷ ys) zero x l e d = subst (λ (z : Apart). OneNode g z.left z.right) (sym e) d
there_on_one g (y ∷ ys) (suc i) x l e d = there_on_one g ys i x (omega arith) e d

pub only_there : (g : Graph) (xs : List Apart) (i : ℕ) → ApartOnOne g (map kept_apart xs) i → i < length xs
only_there g [] i d = absurd d
only_there g (y ∷ ys) zero d = omega arith
only_there g (y ∷ ys) (suc i) d = let l = only_there g ys i d in omega arith

-- the apart at a place tried, by its two terms
module _ (g : Graph) (xs : List Apart) (i : ℕ) (x : Apart) (l : i < length xs) (e : x ≡ get_or xs i x) (p q : Term) (left : p ≡ x.left) (right : q ≡ x.right) where
  pub tried_on_one : OneNode g p q → ApartOnOne g (map kept_apart xs) i
  tried_on_one d = on_one_there g xs i x l e (subst₂ (λ (s t : Term). OneNode g s t) left right d)

  pub none_through : ((j : ℕ) → j < i → ApartOnOne g (map kept_apart xs) j → ⊥) → (OneNode g p q → ⊥) → (j : ℕ) → j < i + 1 → ApartOnOne g (map kept_apart xs) j → ⊥
  none_through before here =
      below_more (λ j. ApartOnOne g (map kept_apart xs) j → ⊥) i before
      (λ d. here (subst₂ (λ (s t : Term). OneNode g s t) (sym left) (sym right) (there_on_one g xs i x l e d)))
