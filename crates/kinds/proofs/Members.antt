-- The list of the numbers that a set has, and the set without its lowest.
use Rattle.std.proofs.Common.{◌≡◌, ℕ, zero, suc, ◌+◌, ◌-◌, ◌/◌, ◌%◌, ◌^◌, ◌<◌, ◌≤◌, ◌≢◌, Bool, true, false, cond, ◌&&◌, eqb, List, [], ◌∷◌, length, ◌⊎◌, sym, refl, ap, ◌∙◌, ap₂, pow-suc, subst, inl, inr, arith}
use lib.Bits.{bit_and}
use Rattle.std.specs.Int.Count.{count_trailing_zeros, under}
use mathlib.Core.List.Memᴰ
use mathlib.Core.List.{Memᴰ}
use Rattle.std.specs.List.{filter, range_with_len}
use Rattle.std.proofs.lemmas.Bool.{both_ways, cases_Bool, cases_eq, cases_lt, cases_order, and_left, and_right, eqb-true, eqb-false}
use Rattle.kinds.specs.Masks.{has, members, LowestTaken}
use Rattle.kinds.specs.BitSets.{has_and, has_none, has_zero, has_suc, has_past, bit_small, lowest_set}

odd_digit : (a : ℕ) → has a 0 ≡ true → a % 2 ≡ 1
odd_digit a h = eqb-true (a % 2) 1 (sym (has_zero a) ∙ h)

even_digit : (a : ℕ) → has a 0 ≡ false → a % 2 ≡ 0
even_digit a h = let n = eqb-false (a % 2) 1 (sym (has_zero a) ∙ h) in omega arith

pub has_positive : (a t : ℕ) → has a t ≡ true → 0 < a
has_positive zero t h = absurd (both_ways (has 0 t) (has_none t) h)
has_positive (suc a) t h = omega arith

-- the bits of half a number, where its lowest bit stands above its last digit
module _ (t a : ℕ) (h : has a (suc t) ≡ true) (n : (b : ℕ) → b < suc t → has a b ≡ false) where
  half_set : has (a / 2) t ≡ true
  half_set = sym (has_suc a t) ∙ h

  half_none : (b : ℕ) → b < t → has (a / 2) b ≡ false
  half_none b l = sym (has_suc a b) ∙ n (suc b) (omega arith)

  half_pred : (a - 1) / 2 ≡ a / 2 - 1
  half_pred = let e = even_digit a (n 0 (omega arith)) in let p = has_positive (a / 2) t half_set in omega arith

-- one less: the lowest bit goes, and those above it stay
pub pred_gone : (t a : ℕ) → has a t ≡ true → ((b : ℕ) → b < t → has a b ≡ false) → has (a - 1) t ≡ false
pred_gone zero a h n =
    let o = odd_digit a h in
    let e : (a - 1) % 2 ≡ 0 = omega arith in has_zero (a - 1) ∙ ap (λ (x : ℕ). eqb x 1) e
pred_gone (suc t) a h n =
    has_suc (a - 1) t ∙ ap (λ (x : ℕ). has x t) (half_pred t a h n) ∙ pred_gone t (a / 2) (half_set t a h n) (half_none t a h n)

pub pred_above : (t a : ℕ) → has a t ≡ true → ((b : ℕ) → b < t → has a b ≡ false) → (b : ℕ) → t < b → has (a - 1) b ≡ has a b
pred_above t a h n zero l = absurd (omega arith)
pred_above zero a h n (suc b) l =
    let o = odd_digit a h in
    let e : (a - 1) / 2 ≡ a / 2 = omega arith in
    has_suc (a - 1) b ∙ ap (λ (x : ℕ). has x b) e ∙ sym (has_suc a b)
pred_above (suc t) a h n (suc b) l =
    has_suc (a - 1) b ∙ ap (λ (x : ℕ). has x b) (half_pred t a h n)
    ∙ pred_above t (a / 2) (half_set t a h n) (half_none t a h n) b (omega arith) ∙ sym (has_suc a b)

-- a and one less than a share all bits of a but the lowest
module _ (t a : ℕ) (h : has a t ≡ true) (n : (b : ℕ) → b < t → has a b ≡ false) where
  pub without_gone : has (bit_and a (a - 1)) t ≡ false
  without_gone = has_and a (a - 1) t ∙ and_right (has a t) (has (a - 1) t) (pred_gone t a h n)

  pub without_others : (b : ℕ) → b ≢ t → has (bit_and a (a - 1)) b ≡ has a b
  without_others b other = settled (cases_order b t)
    where
      twice : (x : Bool) → (x && x) ≡ x
      twice true = refl
      twice false = refl

      settled : (b ≡ t) ⊎ ((b < t) ⊎ (t < b)) → has (bit_and a (a - 1)) b ≡ has a b
      settled (inl e) = absurd (other e)
      settled (inr (inl l)) = has_and a (a - 1) b ∙ and_left (has a b) (has (a - 1) b) (n b l) ∙ sym (n b l)
      settled (inr (inr l)) =
          has_and a (a - 1) b ∙ ap (λ (x : Bool). has a b && x) (pred_above t a h n b l) ∙ twice (has a b)

-- a number that is not 0 has a bit
trailing_below : (k a : ℕ) → 0 < a → a < 2 ^ k → count_trailing_zeros k a < k
unfolding count_trailing_zeros
trailing_below zero a p h = absurd (omega arith)
trailing_below (suc k) a p h = let q = pow-suc 2 k in go (a % 2) refl (λ r. trailing_below k (a / 2) r (omega arith))
  where
    go : (r : ℕ) → a % 2 ≡ r → (0 < a / 2 → count_trailing_zeros k (a / 2) < k) → under r (count_trailing_zeros k (a / 2)) < suc k
    go zero e rest = let l = rest (omega arith) in omega arith
    go (suc r) e rest = omega arith

pub has_some : (a : ℕ) → 0 < a → a < 2 ^ 64 → (t : ℕ) × (has a t ≡ true)
has_some a some fits = (count_trailing_zeros 64 a, lowest_set 64 a (trailing_below 64 a some fits))

-- what passes a test, by the first that does
module _ (p q : ℕ → Bool) (t : ℕ) (at : p t ≡ true) (lower : (u : ℕ) → u < t → p u ≡ false) (gone : q t ≡ false)
    (others : (u : ℕ) → u ≢ t → q u ≡ p u) where
  above : (n a : ℕ) → t < a → filter p (range_with_len a n) ≡ filter q (range_with_len a n)
  above zero a h = refl
  above (suc n) a h =
      ap₂ (λ (b : Bool) (xs : List ℕ). cond b (a ∷ xs) xs) (sym (others a (λ e. omega arith))) (above n (a + 1) (omega arith))

  first : (n a : ℕ) → a ≤ t → t < a + n → filter p (range_with_len a n) ≡ t ∷ filter q (range_with_len a n)
  first zero a h k = absurd (omega arith)
  first (suc n) a h k =
      elim (cases_eq a t) [
        | inl e ↦ ap₂ (λ (b : Bool) (xs : List ℕ). cond b (a ∷ xs) xs) (ap p e ∙ at) (above n (a + 1) (omega arith))
            ∙ ap₂ (λ (x : ℕ) (b : Bool). x ∷ cond b (a ∷ filter q (range_with_len (a + 1) n)) (filter q (range_with_len (a + 1) n))) e (sym (ap q e ∙ gone))
        | inr ne ↦ let low = lower a (omega arith) in
            ap (λ (b : Bool). cond b (a ∷ filter p (range_with_len (a + 1) n)) (filter p (range_with_len (a + 1) n))) low
            ∙ first n (a + 1) (omega arith) (omega arith)
            ∙ ap (λ (b : Bool). t ∷ cond b (a ∷ filter q (range_with_len (a + 1) n)) (filter q (range_with_len (a + 1) n))) (sym (others a ne ∙ low))
      ]

untrue : (b : Bool) → b ≢ true → b ≡ false
untrue true h = absurd (h refl)
untrue false h = refl

nothing : (p : ℕ → Bool) → ((u : ℕ) → p u ≢ true) → (n a : ℕ) → filter p (range_with_len a n) ≡ []
nothing p none zero a = refl
nothing p none (suc n) a =
    ap (λ (b : Bool). cond b (a ∷ filter p (range_with_len (a + 1) n)) (filter p (range_with_len (a + 1) n))) (untrue (p a) (none a))
    ∙ nothing p none n (a + 1)

pub members_none : (mask : ℕ) → ((t : ℕ) → has mask t ≢ true) → members mask ≡ []
unfolding members
members_none mask none = nothing (has mask) none 64 0

-- the lowest comes first, and then those of the set without it
pub members_first : (mask t : ℕ) → t < 64 → has mask t ≡ true → ((u : ℕ) → has mask u ≡ true → t ≤ u)
    → members mask ≡ t ∷ members (bit_and mask (mask - 1))
unfolding members
members_first mask t small at least =
    first (has mask) (has (bit_and mask (mask - 1))) t at lower (without_gone t mask at lower) (without_others t mask at lower)
    64 0 (omega arith) small
  where
    lower : (u : ℕ) → u < t → has mask u ≡ false
    lower u l = untrue (has mask u) (λ h. let k = least u h in absurd (omega arith))

-- what passes a test among the n numbers from a on
passes : (p : ℕ → Bool) (n a u : ℕ) → Memᴰ u (filter p (range_with_len a n)) → (p u ≡ true) × (a ≤ u) × (u < a + n)
passes p zero a u m = absurd (Memᴰ.not-nil m)
passes p (suc n) a u m =
    by_first (cases_Bool (p a)) (λ k. let r = passes p n (a + 1) u k in (r.0, omega arith, omega arith))
  where
    by_first : (p a ≡ true) ⊎ (p a ≡ false)
        → (Memᴰ u (filter p (range_with_len (a + 1) n)) → (p u ≡ true) × (a ≤ u) × (u < a + suc n))
        → (p u ≡ true) × (a ≤ u) × (u < a + suc n)
    by_first (inl h) later =
        elim (Memᴰ.cases_cons (subst (λ (b : Bool). Memᴰ u (cond b (a ∷ filter p (range_with_len (a + 1) n)) (filter p (range_with_len (a + 1) n)))) h m)) [
          | inl e ↦ (ap p e ∙ h, omega arith, omega arith)
          | inr k ↦ later k
        ]
    by_first (inr h) later =
        later (subst (λ (b : Bool). Memᴰ u (cond b (a ∷ filter p (range_with_len (a + 1) n)) (filter p (range_with_len (a + 1) n)))) h m)

passing : (p : ℕ → Bool) (n a u : ℕ) → p u ≡ true → a ≤ u → u < a + n → Memᴰ u (filter p (range_with_len a n))
passing p zero a u h k l = absurd (omega arith)
passing p (suc n) a u h k l = by_order (cases_eq a u) (λ ne. passing p n (a + 1) u h (omega arith) (omega arith))
  where
    put : Bool → List ℕ
    put b = cond b (a ∷ filter p (range_with_len (a + 1) n)) (filter p (range_with_len (a + 1) n))

    later : (b : Bool) → Memᴰ u (filter p (range_with_len (a + 1) n)) → Memᴰ u (put b)
    later true m = Memᴰ.tail m
    later false m = m

    by_order : (a ≡ u) ⊎ (a ≡ u → ⊥) → (a ≢ u → Memᴰ u (filter p (range_with_len (a + 1) n))) → Memᴰ u (put (p a))
    by_order (inl e) rest = subst (λ (b : Bool). Memᴰ u (put b)) (sym (ap p e ∙ h)) (Memᴰ.head (sym e))
    by_order (inr ne) rest = later (p a) (rest ne)

-- where what passes begins with x, nothing below x passes, and the rest is what passes above it
module _ (p : ℕ → Bool) (x : ℕ) (xs : List ℕ) where
  abbrev Begins : ℕ → ℕ → Type 0
  Begins n a =
      (a ≤ x) × (x < a + n) × (p x ≡ true) × ((u : ℕ) → a ≤ u → u < x → p u ≡ false)
      × ((u : ℕ) → Memᴰ u xs → (p u ≡ true) × (x < u)) × ((u : ℕ) → p u ≡ true → x < u → u < a + n → Memᴰ u xs)

  begins : (n a : ℕ) → filter p (range_with_len a n) ≡ x ∷ xs → Begins n a
  begins zero a e = absurd cc
  begins (suc n) a e = by_first (cases_Bool (p a)) (begins n (a + 1))
    where
      put : Bool → List ℕ
      put b = cond b (a ∷ filter p (range_with_len (a + 1) n)) (filter p (range_with_len (a + 1) n))

      by_first : (p a ≡ true) ⊎ (p a ≡ false) → (filter p (range_with_len (a + 1) n) ≡ x ∷ xs → Begins n (a + 1)) → Begins (suc n) a
      by_first (inl h) later =
          let same : a ∷ filter p (range_with_len (a + 1) n) ≡ x ∷ xs = ap put (sym h) ∙ e in
          let one : a ≡ x = cc in
          let rest : filter p (range_with_len (a + 1) n) ≡ xs = cc in (
            omega arith,
            omega arith,
            ap p (sym one) ∙ h,
            λ u k l. absurd (omega arith),
            λ u m. let r = passes p n (a + 1) u (subst (λ (l : List ℕ). Memᴰ u l) (sym rest) m) in (r.0, omega arith),
            λ u k l s. subst (λ (l : List ℕ). Memᴰ u l) rest (passing p n (a + 1) u k (omega arith) (omega arith)),
          )
      by_first (inr h) later =
          let r = later (ap put (sym h) ∙ e) in (
            omega arith,
            omega arith,
            r.2,
            λ u k l. elim (cases_eq u a) [ inl o ↦ ap p o ∙ h | inr ne ↦ r.3 u (omega arith) l ],
            r.4,
            λ u k l s. r.5 u k l (omega arith),
          )

same_tests : (b c : Bool) → (b ≡ true → c ≡ true) → (c ≡ true → b ≡ true) → b ≡ c
same_tests true c f g = sym (f refl)
same_tests false true f g = g refl
same_tests false false f g = refl

-- what a step of `Bits` says of its set, before and after
pub members_taken : (mask lowest rest : ℕ) → mask < 2 ^ 64 → rest < 2 ^ 64 → members mask ≡ lowest ∷ members rest
    → LowestTaken mask lowest rest
unfolding members
members_taken mask lowest rest fits rest_fits e =
    record {
      small = b.1;
      present = b.2;
      least = λ t h. elim (cases_lt t lowest) [ inl l ↦ absurd (both_ways (has mask t) (b.3 t (omega arith) l) h) | inr g ↦ g ];
      gone = untrue (has rest lowest) (λ h. let p = above_lowest lowest h in omega arith);
      others = λ t ne. same_tests (has rest t) (has mask t)
          (λ h. (b.4 t (member rest rest_fits t h)).0)
          (λ h. (passes (has rest) 64 0 t (b.5 t h (over t ne h) (bit_small mask t fits h))).0);
    }
  where
    b : Begins (has mask) lowest (filter (has rest) (range_with_len 0 64)) 64 0
    b = begins (has mask) lowest (filter (has rest) (range_with_len 0 64)) 64 0 e

    member : (s : ℕ) → s < 2 ^ 64 → (t : ℕ) → has s t ≡ true → Memᴰ t (filter (has s) (range_with_len 0 64))
    member s small t h = passing (has s) 64 0 t h (omega arith) (bit_small s t small h)

    above_lowest : (t : ℕ) → has rest t ≡ true → lowest < t
    above_lowest t h = (b.4 t (member rest rest_fits t h)).1

    over : (t : ℕ) → t ≢ lowest → has mask t ≡ true → lowest < t
    over t ne h =
        elim (cases_lt t lowest) [ inl l ↦ absurd (both_ways (has mask t) (b.3 t (omega arith) l) h) | inr g ↦ omega arith ]

-- a set with no members has no bit
pub members_empty : (mask : ℕ) → mask < 2 ^ 64 → members mask ≡ [] → (t : ℕ) → has mask t ≢ true
unfolding members
members_empty mask fits e t h =
    Memᴰ.not-nil (subst (λ (l : List ℕ). Memᴰ t l) e (passing (has mask) 64 0 t h (omega arith) (bit_small mask t fits h)))

-- a number of k bits has at most k members
few : (p : ℕ → Bool) (k : ℕ) → ((t : ℕ) → k ≤ t → p t ≡ false) → (n a : ℕ) → length (filter p (range_with_len a n)) ≤ k - a
few p k none zero a = omega arith
few p k none (suc n) a = by_first (cases_Bool (p a)) (few p k none n (a + 1))
  where
    put : Bool → ℕ
    put b = length (cond b (a ∷ filter p (range_with_len (a + 1) n)) (filter p (range_with_len (a + 1) n)))

    by_first : (p a ≡ true) ⊎ (p a ≡ false) → length (filter p (range_with_len (a + 1) n)) ≤ k - (a + 1) → put (p a) ≤ k - a
    by_first (inl h) r =
        elim (cases_lt a k) [
          | inl l ↦ let e : put (p a) ≡ suc (length (filter p (range_with_len (a + 1) n))) = ap put h in omega arith
          | inr g ↦ absurd (both_ways (p a) (none a g) h)
        ]
    by_first (inr h) r = let e : put (p a) ≡ length (filter p (range_with_len (a + 1) n)) = ap put h in omega arith

pub members_few : (k mask : ℕ) → mask < 2 ^ k → length (members mask) ≤ k
unfolding members
members_few k mask h = let m = few (has mask) k (λ t l. has_past mask k t h l) 64 0 in omega arith
