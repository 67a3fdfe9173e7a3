-- The set of the types that have a link.
use Rattle.std.proofs.Common.{◌≡◌, ℕ, zero, suc, ◌+◌, ◌-◌, ◌*◌, ◌%◌, ◌^◌, ◌<◌, ◌≤◌, true, false, ◌⊎◌, List, length, take, ltb, Some, None, MatchOption, Option, sym, ap, subst, inl, inr, arith}
use lib.Bits.{bit_or, or_lt}
use Rattle.std.proofs.lemmas.Nat.{one_shl}
use Rattle.std.proofs.lemmas.Bool.{cases_Bool, both_ways, cases_lt, lt-ltb, le-ltb}
use Rattle.std.specs.Bool.{then_some}
use Rattle.kinds.specs.declared.types.links.Link.{Link}
use Rattle.kinds.specs.Masks.{has, LowestBit}
use Rattle.kinds.specs.Types.{Linked, AllLinked, link_at, Orphan, Least}
use Rattle.kinds.specs.BitSets.{has_one, only_one, has_left, has_right, either_has, has_lacking, lacking_has}
use Rattle.kinds.proofs.Places.{front_more, front_keeps, front_has}

-- the set has exactly the types that have a link in the list
abbrev pub Subtypes : List Link → ℕ → Type 0
Subtypes links mask =
    ((t : ℕ) → has mask t ≡ true → (s : ℕ) × Linked links t s) × ((t s : ℕ) → Linked links t s → has mask t ≡ true)

pub subtypes_more : (links : List Link) (i mask : ℕ) → i < length links → (link_at links i).subtype < 64
    → Subtypes (take i links) mask → Subtypes (take (i + 1) links) (bit_or mask ((1 * 2 ^ (link_at links i).subtype) % 2 ^ 64))
subtypes_more links i mask h small inv = subst (λ (x : ℕ). Subtypes (take (i + 1) links) (bit_or mask x)) (sym (one_shl (link_at links i).subtype 64 small)) (only, all)
  where
    only : (t : ℕ) → has (bit_or mask (2 ^ (link_at links i).subtype)) t ≡ true → (s : ℕ) × Linked (take (i + 1) links) t s
    only t k =
        elim (either_has mask (2 ^ (link_at links i).subtype) t k) [
          | inl m ↦ let p = inv.0 t m in (p.0, front_keeps links i (record { subtype = 0; supertype = 0 }) h p.1)
          | inr m ↦ ((link_at links i).supertype, front_has links i (record { subtype = 0; supertype = 0 }) h (ap (λ (x : ℕ). let l : Link = record { subtype = x; supertype = (link_at links i).supertype } in l) (only_one (link_at links i).subtype t m)))
        ]

    all : (t s : ℕ) → Linked (take (i + 1) links) t s → has (bit_or mask (2 ^ (link_at links i).subtype)) t ≡ true
    all t s m =
        elim (front_more links i (record { subtype = 0; supertype = 0 }) h m) [
          | inl k ↦ has_left mask (2 ^ (link_at links i).subtype) t (inv.1 t s k)
          | inr e ↦ has_right mask (2 ^ (link_at links i).subtype) t
              (subst (λ (x : ℕ). has (2 ^ (link_at links i).subtype) x ≡ true) (sym (ap (λ (l : Link). l.subtype) e)) (has_one (link_at links i).subtype))
        ]

-- the types other than 0 that have no link are the lacking ones, once 0 is put in
module _ (n : ℕ) (links : List Link) (mask : ℕ) (few : n ≤ 64) (small : mask < 2 ^ 64) (sub : Subtypes links mask) where
  fits : bit_or mask 1 < 2 ^ 64
  fits = or_lt 64 mask 1 small (omega arith)

  pub lacking_orphan : (t : ℕ) → has (2 ^ 64 - 1 - bit_or mask 1) t ≡ true → t < n → Orphan n links t
  lacking_orphan t h l =
      let p = (lacking_has (bit_or mask 1) t fits h).1 in
      (pos t p, l, λ s m. both_ways (has (bit_or mask 1) t) p (has_left mask 1 t (sub.1 t s m)))
    where
      pos : (t : ℕ) → has (bit_or mask 1) t ≡ false → 0 < t
      pos zero p = absurd (both_ways (has (bit_or mask 1) 0) p (has_right mask 1 0 (has_one 0)))
      pos (suc t) p = omega arith

  -- each type other than 0 has a link or is lacking
  pub link_or_lacking : (t : ℕ) → 0 < t → t < n → ((s : ℕ) × Linked links t s) ⊎ (has (2 ^ 64 - 1 - bit_or mask 1) t ≡ true)
  link_or_lacking t h l =
      elim (cases_Bool (has (bit_or mask 1) t)) [
        | inl e ↦ elim (either_has mask 1 t e) [ inl k ↦ inl (sub.0 t k) | inr k ↦ let z = only_one 0 t k in absurd (omega arith) ]
        | inr e ↦ inr (has_lacking (bit_or mask 1) t fits (omega arith) e)
      ]

  pub least_orphan : (t : ℕ) → has (2 ^ 64 - 1 - bit_or mask 1) t ≡ true → ((u : ℕ) → has (2 ^ 64 - 1 - bit_or mask 1) u ≡ true → t ≤ u)
      → t < n → Least (Orphan n links) t
  least_orphan t h least l = (
    lacking_orphan t h l,
    λ u o. elim (link_or_lacking u o.0 o.1) [ inl k ↦ absurd (o.2 k.0 k.1) | inr k ↦ least u k ],
  )

  pub all_linked : ((t : ℕ) → has (2 ^ 64 - 1 - bit_or mask 1) t ≡ true → t < n → ⊥) → AllLinked n links
  all_linked no-lacking t h l = elim (link_or_lacking t h l) [ inl k ↦ k | inr k ↦ absurd (no-lacking t k l) ]

  -- the lowest lacking one, where it is a type
  pub orphan_answers : (found r : Option ℕ) → LowestBit (2 ^ 64 - 1 - bit_or mask 1) found
      → MatchOption found (r ≡ None) (λ t. r ≡ then_some (ltb t n) t)
      → MatchOption r (AllLinked n links) (λ t. Least (Orphan n links) t)
  orphan_answers None r none kept = rw kept (all_linked (λ t h l. none t h))
  orphan_answers (Some t) r low kept =
      elim (cases_lt t n) [
        | inl l ↦ rw (kept, lt-ltb t n l) (least_orphan t low.1 low.2 l)
        | inr g ↦ rw (kept, le-ltb t n g) (all_linked (λ u h l. let le = low.2 u h in omega arith))
      ]
