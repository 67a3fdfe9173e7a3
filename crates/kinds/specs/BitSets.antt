-- The bits of numbers: what `&`, `|` and `!` make of them, and where the lowest stands.
use Rattle.std.specs.Prelude.{◌≡◌, ℕ, zero, suc, ◌+◌, ◌-◌, ◌/◌, ◌%◌, ◌^◌, ◌<◌, ◌≤◌, Bool, true, false, not, ◌&&◌, ◌||◌, eqb, ◌⊎◌, ◌==◌, ◌≢◌, bit_and, bit_or, refl}
use Rattle.std.proofs.Common.{sym, ap, ◌∙◌, div-one, pow-suc, arith, pow_pos, pow_mono, inl, inr}
use Rattle.std.proofs.Math.Nat.{div-eq_of_lt, div-div-eq-div-mul, pow-succ'}
use Rattle.std.proofs.lemmas.Nat.{and_shr, and_mod, or_shr, or_mod}
use Rattle.std.specs.Int.Count.{count_trailing_zeros, under}
use Rattle.std.proofs.lemmas.Bool.{both_ways, cases_lt, and_from, and_parts, or_left, or_right, or_cases, not-true}
use Rattle.kinds.specs.Masks.{has}

two_digits_and : (x y : ℕ) → x < 2 → y < 2 → (bit_and x y == 1) ≡ (x == 1 && y == 1)
two_digits_and zero y h k = refl
two_digits_and (suc zero) zero h k = refl
two_digits_and (suc zero) (suc zero) h k = refl
two_digits_and (suc zero) (suc (suc y)) h k = absurd (omega arith)
two_digits_and (suc (suc x)) y h k = absurd (omega arith)

two_digits_or : (x y : ℕ) → x < 2 → y < 2 → (bit_or x y == 1) ≡ (x == 1 || y == 1)
two_digits_or zero y h k = refl
two_digits_or (suc zero) zero h k = refl
two_digits_or (suc zero) (suc zero) h k = refl
two_digits_or (suc zero) (suc (suc y)) h k = absurd (omega arith)
two_digits_or (suc (suc x)) y h k = absurd (omega arith)

pub has_and : (a b t : ℕ) → has (bit_and a b) t ≡ (has a t && has b t)
unfolding has
has_and a b t =
    ap (λ (x : ℕ). eqb (x % 2) 1) (and_shr a b t) ∙ ap (λ (x : ℕ). eqb x 1) (and_mod (a / 2 ^ t) (b / 2 ^ t) 1)
    ∙ two_digits_and (a / 2 ^ t % 2) (b / 2 ^ t % 2) (omega arith) (omega arith)

pub has_or : (a b t : ℕ) → has (bit_or a b) t ≡ (has a t || has b t)
unfolding has
has_or a b t =
    ap (λ (x : ℕ). eqb (x % 2) 1) (or_shr a b t) ∙ ap (λ (x : ℕ). eqb x 1) (or_mod (a / 2 ^ t) (b / 2 ^ t) 1)
    ∙ two_digits_or (a / 2 ^ t % 2) (b / 2 ^ t % 2) (omega arith) (omega arith)

-- no bit stands at or above a number's length
pub has_past : (a k t : ℕ) → a < 2 ^ k → k ≤ t → has a t ≡ false
unfolding has
has_past a k t h l = let m = pow_mono l in let below : a < 2 ^ t = omega arith in rw div-eq_of_lt refl

pub has_none : (t : ℕ) → has 0 t ≡ false
has_none t = has_past 0 0 t (omega arith) (omega arith)

-- bit 0 is the last digit, and the others are those of half the number
pub has_zero : (a : ℕ) → has a 0 ≡ (a % 2 == 1)
unfolding has
has_zero a = ap (λ (x : ℕ). eqb (x % 2) 1) (div-one a)

pub has_suc : (a t : ℕ) → has a (suc t) ≡ has (a / 2) t
unfolding has
has_suc a t = ap (λ (x : ℕ). eqb (x % 2) 1) (ap (λ (x : ℕ). a / x) (pow-succ' 2 t) ∙ sym (div-div-eq-div-mul a 2 (2 ^ t)))

not_digit : (x y : ℕ) → x + y ≡ 1 → (x == 1) ≡ not (y == 1)
not_digit zero y e = let p : y ≡ 1 = omega arith in rw p refl
not_digit (suc zero) y e = let p : y ≡ 0 = omega arith in rw p refl
not_digit (suc (suc x)) y e = absurd (omega arith)

pub has_not : (t k a : ℕ) → a < 2 ^ k → t < k → has (2 ^ k - 1 - a) t ≡ not (has a t)
has_not zero zero a h l = absurd (omega arith)
has_not (suc t) zero a h l = absurd (omega arith)
has_not zero (suc k) a h l =
    let p = pow-suc 2 k in let q = pow_pos k in
    has_zero (2 ^ suc k - 1 - a) ∙ not_digit ((2 ^ suc k - 1 - a) % 2) (a % 2) (omega arith) ∙ ap not (sym (has_zero a))
has_not (suc t) (suc k) a h l =
    let p = pow-suc 2 k in let q = pow_pos k in
    let e : (2 ^ suc k - 1 - a) / 2 ≡ 2 ^ k - 1 - a / 2 = omega arith in
    has_suc (2 ^ suc k - 1 - a) t ∙ ap (λ (x : ℕ). has x t) e ∙ has_not t k (a / 2) (omega arith) (omega arith)
    ∙ ap not (sym (has_suc a t))

-- the lowest bit is set where there is one, and none below it is
pub lowest_set : (k a : ℕ) → count_trailing_zeros k a < k → has a (count_trailing_zeros k a) ≡ true
unfolding count_trailing_zeros
lowest_set zero a h = absurd (omega arith)
lowest_set (suc k) a h = go (a % 2) refl h (lowest_set k (a / 2))
  where
    go : (r : ℕ) → a % 2 ≡ r → under r (count_trailing_zeros k (a / 2)) < suc k
        → (count_trailing_zeros k (a / 2) < k → has (a / 2) (count_trailing_zeros k (a / 2)) ≡ true) → has a (under r (count_trailing_zeros k (a / 2))) ≡ true
    go zero e h rest = has_suc a (count_trailing_zeros k (a / 2)) ∙ rest (omega arith)
    go (suc r) e h rest = let o : a % 2 ≡ 1 = omega arith in has_zero a ∙ ap (λ (x : ℕ). eqb x 1) o

pub none_lower : (k a u : ℕ) → u < count_trailing_zeros k a → has a u ≡ false
unfolding count_trailing_zeros
none_lower zero a u h = absurd (omega arith)
none_lower (suc k) a u h = go (a % 2) refl u h (λ v. none_lower k (a / 2) v)
  where
    go : (r : ℕ) → a % 2 ≡ r → (u : ℕ) → u < under r (count_trailing_zeros k (a / 2))
        → ((v : ℕ) → v < count_trailing_zeros k (a / 2) → has (a / 2) v ≡ false) → has a u ≡ false
    go zero e zero h rest = has_zero a ∙ ap (λ (x : ℕ). eqb x 1) e
    go zero e (suc u) h rest = has_suc a u ∙ rest u (omega arith)
    go (suc r) e u h rest = absurd (omega arith)

-- so it is at or below each bit that is set
pub lowest_le : (k a u : ℕ) → has a u ≡ true → count_trailing_zeros k a ≤ u
lowest_le k a u h =
    elim (cases_lt u (count_trailing_zeros k a)) [ inl l ↦ absurd (both_ways (has a u) (none_lower k a u l) h) | inr l ↦ l ]

-- what `&` and `|` hold, by parts
pub has_both : (a b t : ℕ) → has a t ≡ true → has b t ≡ true → has (bit_and a b) t ≡ true
has_both a b t h k = has_and a b t ∙ and_from (has a t) (has b t) h k

pub both_have : (a b t : ℕ) → has (bit_and a b) t ≡ true → (has a t ≡ true) × (has b t ≡ true)
both_have a b t h = and_parts (has a t) (has b t) (sym (has_and a b t) ∙ h)

-- the set of one number
pub has_one : (s : ℕ) → has (2 ^ s) s ≡ true
has_one zero = has_zero 1
has_one (suc s) = let p = pow-suc 2 s in let e : 2 ^ suc s / 2 ≡ 2 ^ s = omega arith in has_suc (2 ^ suc s) s ∙ ap (λ (x : ℕ). has x s) e ∙ has_one s

pub only_one : (s t : ℕ) → has (2 ^ s) t ≡ true → t ≡ s
only_one zero zero h = refl
only_one zero (suc t) h = absurd (both_ways (has 1 (suc t)) (has_suc 1 t ∙ has_none t) h)
only_one (suc s) zero h =
    let p = pow-suc 2 s in let e : 2 ^ suc s % 2 ≡ 0 = omega arith in
    absurd (both_ways (has (2 ^ suc s) 0) (has_zero (2 ^ suc s) ∙ ap (λ (x : ℕ). eqb x 1) e) h)
only_one (suc s) (suc t) h =
    let p = pow-suc 2 s in let e : 2 ^ suc s / 2 ≡ 2 ^ s = omega arith in
    ap suc (only_one s t (sym (has_suc (2 ^ suc s) t ∙ ap (λ (x : ℕ). has x t) e) ∙ h))

pub has_left : (a b t : ℕ) → has a t ≡ true → has (bit_or a b) t ≡ true
has_left a b t h = has_or a b t ∙ or_left (has a t) (has b t) h

pub has_right : (a b t : ℕ) → has b t ≡ true → has (bit_or a b) t ≡ true
has_right a b t h = has_or a b t ∙ or_right (has a t) (has b t) h

pub either_has : (a b t : ℕ) → has (bit_or a b) t ≡ true → (has a t ≡ true) ⊎ (has b t ≡ true)
either_has a b t h = or_cases (has a t) (has b t) (sym (has_or a b t) ∙ h)

-- the numbers below 64 that a set lacks
pub has_lacking : (a t : ℕ) → a < 2 ^ 64 → t < 64 → has a t ≡ false → has (2 ^ 64 - 1 - a) t ≡ true
has_lacking a t h l e = has_not t 64 a h l ∙ ap not e

pub lacking_has : (a t : ℕ) → a < 2 ^ 64 → has (2 ^ 64 - 1 - a) t ≡ true → (t < 64) × (has a t ≡ false)
lacking_has a t h e =
    elim (cases_lt t 64) [
      | inl l ↦ (l, not-true (has a t) (sym (has_not t 64 a h l) ∙ e))
      | inr l ↦ absurd (both_ways (has (2 ^ 64 - 1 - a) t) (has_past (2 ^ 64 - 1 - a) 64 t (omega arith) l) e)
    ]

-- a number of 64 bits has no bit at or above 64
pub bit_small : (a t : ℕ) → a < 2 ^ 64 → has a t ≡ true → t < 64
bit_small a t h e =
    elim (cases_lt t 64) [ inl l ↦ l | inr l ↦ absurd (both_ways (has a t) (has_past a 64 t h l) e) ]

-- a power of two has no other bit
pub power_alone : (k t : ℕ) → (t ≢ k) → has (2 ^ k) t ≡ false
power_alone k t h = settled (has (2 ^ k) t) refl
  where
    settled : (b : Bool) → has (2 ^ k) t ≡ b → has (2 ^ k) t ≡ false
    settled true e = absurd (h (only_one k t e))
    settled false e = e
