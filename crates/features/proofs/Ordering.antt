-- Laws of listing order at one attribute more.
use Rattle.std.proofs.Common.{◌≡◌, ℕ, suc, ◌<◌, List, [], ◌∷◌, ◌++◌, length, refl, subst, inl, inr, arith, length-append}
use Rattle.features.specs.Terms.{Term, only, ◌▸◌}
use Rattle.features.specs.Order.{Before, ◌≺◌}
use Rattle.features.proofs.TotalOrder.{Three, first, second, third, order, not_both, never, ≺-trans}

before_more : (xs ys us vs : List ℕ) → Before xs ys → Before (xs ++ us) (ys ++ vs)
before_more [] ys us vs b = absurd b
before_more (x ∷ xs) [] us vs b = absurd b
before_more (x ∷ xs) (y ∷ ys) us vs (inl h) = inl h
before_more (x ∷ xs) (y ∷ ys) us vs (inr h) = inr (h.0, before_more xs ys us vs h.1)

before_last : (xs : List ℕ) {a b : ℕ} → a < b → Before (xs ++ (a ∷ [])) (xs ++ (b ∷ []))
before_last [] h = inl h
before_last (x ∷ xs) h = inr (refl, before_last xs h)

pub longer : (t : Term) (a : ℕ) → length (t ▸ a).path ≡ suc (length t.path)
longer t a = omega (arith, length-append t.path (a ∷ []))

pub ≺-extend : (s t : Term) (a b : ℕ) → s ≺ t → s ▸ a ≺ t ▸ b
≺-extend s t a b (inl h) = inl (omega (arith, longer s a, longer t b))
≺-extend s t a b (inr h) = inr (omega (arith, longer s a, longer t b, h.0), before_more (s.var ∷ s.path) (t.var ∷ t.path) (a ∷ []) (b ∷ []) h.1)

pub ≺-last : (t : Term) (a b : ℕ) → a < b → t ▸ a ≺ t ▸ b
≺-last t a b h = inr (omega (arith, longer t a, longer t b), before_last (t.var ∷ t.path) h)

pub ≺-front : (t : Term) (a : ℕ) → t ≺ t ▸ a
≺-front t a = inl (omega (arith, longer t a))

pub only_first : (x : ℕ) (t : Term) (a : ℕ) → only x ≺ t ▸ a
only_first x t a = inl (omega (arith, longer t a))

-- of two terms with one last attribute the fronts decide
pub ≺-cancel : (s t : Term) (a : ℕ) → s ▸ a ≺ t ▸ a → s ≺ t
≺-cancel s t a h = pick (order s t)
  where
    pick : Three (s ≺ t) (s ≡ t) (t ≺ s) → s ≺ t
    pick (first l) = l
    pick (second e) = absurd (never (t ▸ a) (subst (λ (z : Term). z ▸ a ≺ t ▸ a) e h))
    pick (third l) = absurd (not_both (s ▸ a) (t ▸ a) h (≺-extend t s a a l))

-- what comes before t comes before all that do not come before t
pub ≺-then : (s t u : Term) → s ≺ t → (u ≺ t → ⊥) → s ≺ u
≺-then s t u h out = pick (order t u)
  where
    pick : Three (t ≺ u) (t ≡ u) (u ≺ t) → s ≺ u
    pick (first l) = ≺-trans s t u h l
    pick (second e) = subst (λ (z : Term). s ≺ z) e h
    pick (third l) = absurd (out l)

-- and so with an attribute more each, where the first comes no later and has the lesser attribute
pub ≺-last-then : (t u : Term) (a b : ℕ) → a < b → (u ≺ t → ⊥) → t ▸ a ≺ u ▸ b
≺-last-then t u a b h out = pick (order t u)
  where
    pick : Three (t ≺ u) (t ≡ u) (u ≺ t) → t ▸ a ≺ u ▸ b
    pick (first l) = ≺-extend t u a b l
    pick (second e) = subst (λ (z : Term). t ▸ a ≺ z ▸ b) e (≺-last t a b h)
    pick (third l) = absurd (out l)

-- a path by its end
pub data Ended : List ℕ → Type 0 where
  empty : Ended []
  more : {xs : List ℕ} (a : ℕ) → Ended xs → Ended (xs ++ (a ∷ []))

pub ended : (xs : List ℕ) → Ended xs
ended [] = empty
ended (x ∷ xs) = in_front (ended xs)
  where
    in_front : {ys : List ℕ} → Ended ys → Ended (x ∷ ys)
    in_front empty = more x empty
    in_front (more a e) = more a (in_front e)
