-- The lowest bit of a number, what is left without it, and the count of bits.
use Rattle.std.proofs.Common.{◌≡◌, ℕ, zero, suc, ◌+◌, ◌-◌, ◌/◌, ◌%◌, ◌^◌, ◌<◌, min, Bool, true, false, cond, ◌&&◌, eqb, ltb, ◌⊎◌, get_or, sym, refl, ap, ◌∙◌, ap₂, inl, inr, add-zero, pow-suc, zero-add, arith}
use mathlib.Core.Option.{some, none}
use lib.Bits.{bit_and, and_step, and_self, and_le_r}
use lib.Count.{count_trailing_zeros, under, ones, ones_step, ones-le}
use Rattle.std.proofs.lemmas.Bool.{both_ways, cases_order, and_left, and_right, eqb-true, eqb-false, cases_Bool, lt-ltb}
use Rattle.kinds.specs.Masks.{has}
use Rattle.kinds.specs.BitSets.{has_and, has_none, has_zero, has_suc, lowest_set, none_lower}
use Rattle.features.specs.Listing.{count, one_if}
use Rattle.tables.specs.declared.node.Node.{Node}
use Rattle.tables.specs.Views.{edge_of}
use Rattle.tables.specs.Attributes.{Lowest, WithoutLowest}

-- a number that is not 0 has a bit
pub trailing_below : (k a : ℕ) → 0 < a → a < 2 ^ k → count_trailing_zeros k a < k
unfolding count_trailing_zeros
trailing_below zero a p h = absurd (omega arith)
trailing_below (suc k) a p h = let q = pow-suc 2 k in go (a % 2) refl (λ r. trailing_below k (a / 2) r (omega arith))
  where
    go : (r : ℕ) → a % 2 ≡ r → (0 < a / 2 → count_trailing_zeros k (a / 2) < k) → under r (count_trailing_zeros k (a / 2)) < suc k
    go zero e rest = let l = rest (omega arith) in omega arith
    go (suc r) e rest = omega arith

odd_digit : (a : ℕ) → has a 0 ≡ true → a % 2 ≡ 1
odd_digit a h = eqb-true (a % 2) 1 (sym (has_zero a) ∙ h)

even_digit : (a : ℕ) → has a 0 ≡ false → a % 2 ≡ 0
even_digit a h = let n = eqb-false (a % 2) 1 (sym (has_zero a) ∙ h) in omega arith

pub has_positive : (a t : ℕ) → has a t ≡ true → 0 < a
has_positive zero t h = absurd (both_ways (has 0 t) (has_none t) h)
has_positive (suc a) t h = omega arith

-- the lowest bit of a number of 32 bits, as an attribute
pub lowest_is : (a : ℕ) → 0 < a → a < 2 ^ 32 → Lowest a (count_trailing_zeros 32 a)
lowest_is a p h =
    let l = trailing_below 32 a p h in
    record { positive = p; below = l; present = lowest_set 32 a l; none_lower = λ b. none_lower 32 a b }

-- the bits of half a number, where its lowest bit stands above its last digit
module _ (t a : ℕ) (h : has a (suc t) ≡ true) (n : (b : ℕ) → b < suc t → has a b ≡ false) where
  half_set : has (a / 2) t ≡ true
  half_set = sym (has_suc a t) ∙ h

  half_none : (b : ℕ) → b < t → has (a / 2) b ≡ false
  half_none b l = sym (has_suc a b) ∙ n (suc b) (omega arith)

  half_pred : (a - 1) / 2 ≡ a / 2 - 1
  half_pred = let e = even_digit a (n 0 (omega arith)) in let p = has_positive (a / 2) t half_set in omega arith

-- one less: the lowest bit goes, and those above it stay
pub pred_gone : (t a : ℕ) → has a t ≡ true → ((b : ℕ) → b < t → has a b ≡ false) → has (a - 1) t ≡ false
pred_gone zero a h n =
    let o = odd_digit a h in
    let e : (a - 1) % 2 ≡ 0 = omega arith in has_zero (a - 1) ∙ ap (λ (x : ℕ). eqb x 1) e
pred_gone (suc t) a h n =
    has_suc (a - 1) t ∙ ap (λ (x : ℕ). has x t) (half_pred t a h n) ∙ pred_gone t (a / 2) (half_set t a h n) (half_none t a h n)

pub pred_above : (t a : ℕ) → has a t ≡ true → ((b : ℕ) → b < t → has a b ≡ false) → (b : ℕ) → t < b → has (a - 1) b ≡ has a b
pred_above t a h n zero l = absurd (omega arith)
pred_above zero a h n (suc b) l =
    let o = odd_digit a h in
    let e : (a - 1) / 2 ≡ a / 2 = omega arith in
    has_suc (a - 1) b ∙ ap (λ (x : ℕ). has x b) e ∙ sym (has_suc a b)
pred_above (suc t) a h n (suc b) l =
    has_suc (a - 1) b ∙ ap (λ (x : ℕ). has x b) (half_pred t a h n)
    ∙ pred_above t (a / 2) (half_set t a h n) (half_none t a h n) b (omega arith) ∙ sym (has_suc a b)

-- a number whose last digit is 0 or becomes 0
ones_even : (a b : ℕ) → min (a % 2) (b % 2) ≡ 0 → ones (bit_and a b) ≡ ones (bit_and (a / 2) (b / 2))
ones_even a b e =
    let s = and_step a b in
    let d : bit_and a b % 2 ≡ 0 = omega arith in
    let q : bit_and a b / 2 ≡ bit_and (a / 2) (b / 2) = omega arith in
    ones_step (bit_and a b) ∙ ap₂ (λ (x y : ℕ). x + ones y) d q ∙ zero-add (ones (bit_and (a / 2) (b / 2)))

pub ones_fall : (t a : ℕ) → has a t ≡ true → ((b : ℕ) → b < t → has a b ≡ false) → suc (ones (bit_and a (a - 1))) ≡ ones a
ones_fall zero a h n =
    let o = odd_digit a h in
    let d : min (a % 2) ((a - 1) % 2) ≡ 0 = omega arith in
    let e : (a - 1) / 2 ≡ a / 2 = omega arith in
    let f : bit_and (a / 2) ((a - 1) / 2) ≡ a / 2 = ap (λ (x : ℕ). bit_and (a / 2) x) e ∙ and_self (a / 2) in
    let g = ones_even a (a - 1) d in
    let k = ap ones f in
    let s = ones_step a in
    omega arith
ones_fall (suc t) a h n =
    let o = even_digit a (n 0 (omega arith)) in
    let d : min (a % 2) ((a - 1) % 2) ≡ 0 = omega arith in
    let g = ones_even a (a - 1) d ∙ ap (λ (x : ℕ). ones (bit_and (a / 2) x)) (half_pred t a h n) in
    let s = ones_step a in
    let r = ones_fall t (a / 2) (half_set t a h n) (half_none t a h n) in
    omega arith

-- a bit that two numbers share is one of the first
pub shared_bit : (a b t : ℕ) → has (bit_and a b) t ≡ true → has a t ≡ true
shared_bit a b t e = first (has a t) (has b t) (sym (has_and a b t) ∙ e)
  where
    first : (x y : Bool) → (x && y) ≡ true → x ≡ true
    first true y h = refl
    first false y h = h

-- the lowest bit taken away
pub without_is : (a t : ℕ) → Lowest a t → WithoutLowest a (bit_and a (a - 1))
without_is a t l =
    record {
      smaller = omega (arith, l.positive, and_le_r a (a - 1));
      fewer = ones_fall t a l.present l.none_lower;
      gone = λ t w. has_and a (a - 1) t ∙ and_right (has a t) (has (a - 1) t) (pred_gone t a w.present w.none_lower);
      others = λ t b w n. others t b w (cases_order b t) n;
    }
  where
    others : (t b : ℕ) → Lowest a t → (b ≡ t) ⊎ ((b < t) ⊎ (t < b)) → (b ≡ t → ⊥) → has (bit_and a (a - 1)) b ≡ has a b
    others t b w (inl e) n = absurd (n e)
    others t b w (inr (inl l)) n = has_and a (a - 1) b ∙ and_left (has a b) (has (a - 1) b) (w.none_lower b l) ∙ sym (w.none_lower b l)
    others t b w (inr (inr l)) n =
        has_and a (a - 1) b ∙ ap (λ (x : Bool). has a b && x) (pred_above t a w.present w.none_lower b l) ∙ twice (has a b)
      where
        twice : (x : Bool) → (x && x) ≡ x
        twice true = refl
        twice false = refl

last_digit : (a : ℕ) → cond (has a 0) 1 0 ≡ a % 2
last_digit a =
    elim (cases_Bool (has a 0)) [
      | inl h ↦ ap (λ (x : Bool). cond {A = ℕ} x 1 0) h ∙ sym (odd_digit a h)
      | inr h ↦ ap (λ (x : Bool). cond {A = ℕ} x 1 0) h ∙ sym (even_digit a h)
    ]

-- the count of bits, bit by bit
pub ones_count : (k a : ℕ) → a < 2 ^ k → (f : ℕ → ℕ) (s : ℕ) → ((t : ℕ) → t < k → f (s + t) ≡ cond (has a t) 1 0) → count f s k ≡ ones a
ones_count zero a h f s each = let l = ones-le 0 a h in omega arith
ones_count (suc k) a h f s each =
    let q = pow-suc 2 k in
    let first : f s ≡ a % 2 = ap f (sym (add-zero s)) ∙ each 0 (omega arith) ∙ last_digit a in
    let rest : count f (suc s) k ≡ ones (a / 2) =
    ones_count k (a / 2) (omega arith) f (suc s)
    (λ t l. let e : suc s + t ≡ s + suc t = omega arith in ap f e ∙ each (suc t) (omega arith) ∙ ap (λ (x : Bool). cond {A = ℕ} x 1 0) (has_suc a t)) in
    let e = ones_step a in
    omega arith

-- so it counts the attributes of a row
pub degree_is : (r : Node) → r.present < 2 ^ 32 → count (λ a. one_if (edge_of r a)) 0 32 ≡ ones r.present
degree_is r h = ones_count 32 r.present h (λ a. one_if (edge_of r a)) 0 each
  where
    counted : (x y : Bool) (v : ℕ) → x ≡ true → one_if (cond (x && y) (some v) none) ≡ cond y 1 0
    counted true true v e = refl
    counted true false v e = refl
    counted false y v e = absurd (both_ways false refl e)

    each : (t : ℕ) → t < 32 → one_if (edge_of r (0 + t)) ≡ cond (has r.present t) 1 0
    each t l =
        ap (λ (x : ℕ). one_if (edge_of r x)) (zero-add t)
        ∙ counted (ltb t 32) (has r.present t) (get_or r.targets t 0) (lt-ltb t 32 l)
