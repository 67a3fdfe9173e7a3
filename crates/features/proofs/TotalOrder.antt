-- The order of listing is a strict total order on terms.
use Rattle.std.proofs.Common.{◌≡◌, ℕ, suc, ◌<◌, ◌≤◌, ◌⊎◌, List, [], ◌∷◌, length, sym, refl, ap, ◌∙◌, inl, inr, arith}
use native.Mathlib.Decide.{dec_lt}
use Rattle.features.specs.Terms.{Term}
use Rattle.features.specs.Graphs.{Graph}
use Rattle.features.specs.Order.{Before, ◌≺◌, Trail}
use Rattle.features.specs.Theorems.{StrictTotalOrder}

-- one of three
pub data Three (A B C : Type 0) : Type 0 where
  first : A → Three A B C
  second : B → Three A B C
  third : C → Three A B C

pub compare : (m n : ℕ) → Three (m < n) (m ≡ n) (n < m)
compare m n = by_left (dec_lt m n)
  where
    by_right : (n ≤ m) → Dec (n < m) → Three (m < n) (m ≡ n) (n < m)
    by_right h (yes l) = third l
    by_right h (no l) = second (omega arith)

    by_left : Dec (m < n) → Three (m < n) (m ≡ n) (n < m)
    by_left (yes l) = first l
    by_left (no l) = by_right (omega arith) (dec_lt n m)

before_not_both : (xs ys : List ℕ) → Before xs ys → Before ys xs → ⊥
before_not_both [] ys b c = b
before_not_both (x ∷ xs) [] b c = b
before_not_both (x ∷ xs) (y ∷ ys) (inl h) (inl k) = omega arith
before_not_both (x ∷ xs) (y ∷ ys) (inl h) (inr k) = omega (arith, k.0)
before_not_both (x ∷ xs) (y ∷ ys) (inr h) (inl k) = omega (arith, h.0)
before_not_both (x ∷ xs) (y ∷ ys) (inr h) (inr k) = before_not_both xs ys h.1 k.1

before_trans : (xs ys zs : List ℕ) → Before xs ys → Before ys zs → Before xs zs
before_trans [] ys zs b c = absurd b
before_trans (x ∷ xs) [] zs b c = absurd b
before_trans (x ∷ xs) (y ∷ ys) [] b c = absurd c
before_trans (x ∷ xs) (y ∷ ys) (z ∷ zs) (inl h) (inl k) = inl (omega arith)
before_trans (x ∷ xs) (y ∷ ys) (z ∷ zs) (inl h) (inr k) = inl (omega (arith, k.0))
before_trans (x ∷ xs) (y ∷ ys) (z ∷ zs) (inr h) (inl k) = inl (omega (arith, h.0))
before_trans (x ∷ xs) (y ∷ ys) (z ∷ zs) (inr h) (inr k) = inr (h.0 ∙ k.0, before_trans xs ys zs h.1 k.1)

before_or : (xs ys : List ℕ) → length xs ≡ length ys → Three (Before xs ys) (xs ≡ ys) (Before ys xs)
before_or [] [] e = second refl
before_or [] (y ∷ ys) e = absurd (omega (arith, e))
before_or (x ∷ xs) [] e = absurd (omega (arith, e))
before_or (x ∷ xs) (y ∷ ys) e = by_head (compare x y) (before_or xs ys (omega (arith, e)))
  where
    by_head : Three (x < y) (x ≡ y) (y < x) → Three (Before xs ys) (xs ≡ ys) (Before ys xs) → Three (Before (x ∷ xs) (y ∷ ys)) ((x ∷ xs) ≡ (y ∷ ys)) (Before (y ∷ ys) (x ∷ xs))
    by_head (first l) r = first (inl l)
    by_head (third l) r = third (inl l)
    by_head (second q) (first b) = first (inr (q, b))
    by_head (second q) (second b) = second (cc)
    by_head (second q) (third b) = third (inr (sym q, b))

pub not_both : (s t : Term) → s ≺ t → t ≺ s → ⊥
not_both s t (inl h) (inl k) = omega arith
not_both s t (inl h) (inr k) = omega (arith, k.0)
not_both s t (inr h) (inl k) = omega (arith, h.0)
not_both s t (inr h) (inr k) = before_not_both (s.var ∷ s.path) (t.var ∷ t.path) h.1 k.1

pub never : (t : Term) → t ≺ t → ⊥
never t h = not_both t t h h

pub ≺-trans : (s t u : Term) → s ≺ t → t ≺ u → s ≺ u
≺-trans s t u (inl h) (inl k) = inl (omega arith)
≺-trans s t u (inl h) (inr k) = inl (omega (arith, k.0))
≺-trans s t u (inr h) (inl k) = inl (omega (arith, h.0))
≺-trans s t u (inr h) (inr k) = inr (h.0 ∙ k.0, before_trans (s.var ∷ s.path) (t.var ∷ t.path) (u.var ∷ u.path) h.1 k.1)

term_same : (s t : Term) → (s.var ∷ s.path) ≡ (t.var ∷ t.path) → s ≡ t
term_same s t e = λ i. record { var = head_same i; path = tail_same i }
  where
    head_same : s.var ≡ t.var
    head_same = cc

    tail_same : s.path ≡ t.path
    tail_same = cc

-- of two terms one comes first, unless they are one
pub order : (s t : Term) → Three (s ≺ t) (s ≡ t) (t ≺ s)
order s t = by_length (compare (length s.path) (length t.path))
  where
    by_list : length s.path ≡ length t.path → Three (Before (s.var ∷ s.path) (t.var ∷ t.path)) ((s.var ∷ s.path) ≡ (t.var ∷ t.path)) (Before (t.var ∷ t.path) (s.var ∷ s.path)) → Three (s ≺ t) (s ≡ t) (t ≺ s)
    by_list e (first b) = first (inr (e, b))
    by_list e (second b) = second (term_same s t b)
    by_list e (third b) = third (inr (sym e, b))

    by_length : Three (length s.path < length t.path) (length s.path ≡ length t.path) (length t.path < length s.path) → Three (s ≺ t) (s ≡ t) (t ≺ s)
    by_length (first l) = first (inl l)
    by_length (third l) = third (inl l)
    by_length (second e) = by_list e (before_or (s.var ∷ s.path) (t.var ∷ t.path) (ap suc e))

pub strict_total : StrictTotalOrder
strict_total = record { irreflexive = never; transitive = ≺-trans; total = λ s t other. pick s t other (order s t) }
  where
    pick : (s t : Term) → (s ≡ t → ⊥) → Three (s ≺ t) (s ≡ t) (t ≺ s) → (s ≺ t) ⊎ (t ≺ s)
    pick s t other (first l) = inl l
    pick s t other (second e) = absurd (other e)
    pick s t other (third l) = inr l

-- a node has one trail at most
pub trail_same : (g : Graph) (n : ℕ) (s t : Term) → Trail g n s → Trail g n t → s ≡ t
trail_same g n s t a b = pick (order s t)
  where
    pick : Three (s ≺ t) (s ≡ t) (t ≺ s) → s ≡ t
    pick (first l) = absurd (b.first s a.denotes l)
    pick (second e) = e
    pick (third l) = absurd (a.first t b.denotes l)
