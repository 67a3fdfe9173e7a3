-- The set of the marked types, one type after another.
use Rattle.std.proofs.Common.{◌≡◌, ℕ, ◌+◌, ◌*◌, ◌%◌, ◌^◌, ◌<◌, true, false, List, sym, ◌∙◌, subst, inl, inr, arith}
use lib.Bits.{bit_or}
use Rattle.std.proofs.lemmas.Nat.{one_shl}
use Rattle.std.proofs.lemmas.Bool.{cases_Bool, cases_lt, both_ways}
use Rattle.std.specs.List.{HoldsAt}
use Rattle.kinds.specs.Masks.{has}
use Rattle.kinds.specs.BitSets.{has_none, has_one, only_one, has_left, has_right, either_has}
use Rattle.hierarchy_text.specs.declared.entry.Entry.{Entry}
use Rattle.hierarchy_text.specs.Sheets.{Marked}

pub marked_none : (es : List Entry) → Marked es 0 0
marked_none es = (λ t h. absurd (both_ways (has 0 t) (has_none t) h), λ t h. absurd (omega arith))

module _ (es : List Entry) (i m : ℕ) (inv : Marked es i m) where
  below : (t : ℕ) → t < i + 1 → (t < i → HoldsAt (λ e. has m t ≡ e.leaf) es t) → (HoldsAt (λ e. has m i ≡ e.leaf) es i) → HoldsAt (λ e. has m t ≡ e.leaf) es t
  below t h earlier here =
      elim (cases_lt t i) [
        | inl l ↦ earlier l
        | inr l ↦ let e : i ≡ t = omega arith in subst (λ (x : ℕ). HoldsAt (λ e. has m x ≡ e.leaf) es x) e here
      ]

  unmarked : has m i ≡ false
  unmarked = elim (cases_Bool (has m i)) [ inl e ↦ let l = inv.0 i e in absurd (omega arith) | inr e ↦ e ]

  -- a type without a mark
  pub marked_skip : HoldsAt (λ e. e.leaf ≡ false) es i → Marked es (i + 1) m
  marked_skip bare = (
    λ t h. let l = inv.0 t h in omega arith,
    λ t h. below t h (inv.1 t) (λ d. unmarked ∙ sym (bare d)),
  )

  -- a type with a mark
  pub marked_more : i < 64 → HoldsAt (λ e. e.leaf ≡ true) es i → Marked es (i + 1) (bit_or m ((1 * 2 ^ i) % 2 ^ 64))
  marked_more small marked = subst (λ (x : ℕ). Marked es (i + 1) (bit_or m x)) (sym (one_shl i 64 small)) (only, each)
    where
      only : (t : ℕ) → has (bit_or m (2 ^ i)) t ≡ true → t < i + 1
      only t h =
          elim (either_has m (2 ^ i) t h) [ inl k ↦ let l = inv.0 t k in omega arith | inr k ↦ let e = only_one i t k in omega arith ]

      same : (t : ℕ) → t < i → has (bit_or m (2 ^ i)) t ≡ has m t
      same t h =
          elim (cases_Bool (has m t)) [
            | inl e ↦ has_left m (2 ^ i) t e ∙ sym e
            | inr e ↦ elim (cases_Bool (has (bit_or m (2 ^ i)) t)) [
              | inl k ↦ elim (either_has m (2 ^ i) t k) [ inl q ↦ absurd (both_ways (has m t) e q) | inr q ↦ let z = only_one i t q in absurd (omega arith) ]
              | inr k ↦ k ∙ sym e
            ]
          ]

      each : (t : ℕ) → t < i + 1 → HoldsAt (λ e. has (bit_or m (2 ^ i)) t ≡ e.leaf) es t
      each t h =
          elim (cases_lt t i) [
            | inl l ↦ λ d. same t l ∙ inv.1 t l d
            | inr l ↦ let e : i ≡ t = omega arith in
                subst (λ (x : ℕ). HoldsAt (λ e. has (bit_or m (2 ^ i)) x ≡ e.leaf) es x) e (λ d. has_right m (2 ^ i) i (has_one i) ∙ sym (marked d))
          ]
