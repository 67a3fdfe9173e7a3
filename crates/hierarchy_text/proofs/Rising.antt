-- The types above a type: those right above it, and those at or above it.
use Rattle.std.proofs.Common.{◌≡◌, ℕ, suc, ◌+◌, ◌*◌, ◌%◌, ◌^◌, ◌<◌, ◌≤◌, true, List, [], length, take, sym, ap, subst, inl, inr, arith}
use mathlib.Core.List.Memᴰ
use lib.Bits.{bit_or}
use Rattle.std.proofs.lemmas.Nat.{one_shl}
use Rattle.std.proofs.lemmas.Bool.{cases_eq, both_ways}
use Rattle.kinds.specs.declared.types.links.Link.{Link}
use Rattle.kinds.specs.Masks.{has}
use Rattle.kinds.specs.Types.{Linked, AllUpward, Up, link_at}
use Rattle.kinds.specs.Types.Up.{stay, climb}
use Rattle.kinds.specs.BitSets.{has_none, has_one, only_one, has_left, has_right, either_has}
use Rattle.kinds.proofs.Climbing.{upward_link, up_link}
use Rattle.kinds.proofs.Places.{front_more, front_keeps, front_has}
use Rattle.hierarchy_text.specs.Sheets.{Supertypes, Above}

pub supertypes_none : (t : ℕ) → Supertypes [] t 0
supertypes_none t = (λ x h. absurd (both_ways (has 0 x) (has_none x) h), λ x m. absurd (Memᴰ.not-nil m))

module _ (links : List Link) (i t set : ℕ) (h : i < length links) (inv : Supertypes (take i links) t set) where
  pub supertypes_skip : ((link_at links i).subtype ≡ t → ⊥) → Supertypes (take (i + 1) links) t set
  supertypes_skip ne = (
    λ x k. front_keeps links i (record { subtype = 0; supertype = 0 }) h (inv.0 x k),
    λ x m. elim (front_more links i (record { subtype = 0; supertype = 0 }) h m) [
      | inl k ↦ inv.1 x k
      | inr e ↦ absurd (ne (sym (ap (λ (l : Link). l.subtype) e)))
    ],
  )

  pub supertypes_more : (link_at links i).subtype ≡ t → (link_at links i).supertype < 64
      → Supertypes (take (i + 1) links) t (bit_or set ((1 * 2 ^ (link_at links i).supertype) % 2 ^ 64))
  supertypes_more e small =
      subst (λ (x : ℕ). Supertypes (take (i + 1) links) t (bit_or set x)) (sym (one_shl (link_at links i).supertype 64 small)) (only, all)
    where
      only : (x : ℕ) → has (bit_or set (2 ^ (link_at links i).supertype)) x ≡ true → Linked (take (i + 1) links) t x
      only x k =
          elim (either_has set (2 ^ (link_at links i).supertype) x k) [
            | inl m ↦ front_keeps links i (record { subtype = 0; supertype = 0 }) h (inv.0 x m)
            | inr m ↦ let q = only_one (link_at links i).supertype x m in
                front_has links i (record { subtype = 0; supertype = 0 }) h (λ j. record { subtype = sym e j; supertype = q j })
          ]

      all : (x : ℕ) → Linked (take (i + 1) links) t x → has (bit_or set (2 ^ (link_at links i).supertype)) x ≡ true
      all x m =
          elim (front_more links i (record { subtype = 0; supertype = 0 }) h m) [
            | inl k ↦ has_left set (2 ^ (link_at links i).supertype) x (inv.1 x k)
            | inr q ↦ has_right set (2 ^ (link_at links i).supertype) x
                (subst (λ (y : ℕ). has (2 ^ (link_at links i).supertype) y ≡ true) (sym (ap (λ (l : Link). l.supertype) q)) (has_one (link_at links i).supertype))
          ]

-- the set has t, only types at or above it, and with each of its types from k on the types right above that one
abbrev pub Rising : List Link → ℕ → ℕ → ℕ → Type 0
Rising links t k set =
    ((x : ℕ) → has set x ≡ true → Up links t x) × (has set t ≡ true)
    × ((y x : ℕ) → k ≤ y → has set y ≡ true → Linked links y x → has set x ≡ true)

module _ {n : ℕ} (links : List Link) (up : AllUpward n links) (t : ℕ) where
  pub rising_start : Rising links t (t + 1) (2 ^ t)
  rising_start = (
    λ x h. subst (λ (y : ℕ). Up links t y) (sym (only_one t x h)) stay,
    has_one t,
    λ y x l h m. let e = only_one t y h in absurd (omega arith),
  )

  pub rising_more : (k set more : ℕ) → has set k ≡ true → Supertypes links k more → Rising links t (suc k) set → Rising links t k (bit_or set more)
  rising_more k set more here s r = (only, has_left set more t r.1, closed)
    where
      only : (x : ℕ) → has (bit_or set more) x ≡ true → Up links t x
      only x h = elim (either_has set more x h) [ inl q ↦ r.0 x q | inr q ↦ up_link (r.0 k here) (s.0 x q) ]

      closed : (y x : ℕ) → k ≤ y → has (bit_or set more) y ≡ true → Linked links y x → has (bit_or set more) x ≡ true
      closed y x l h m =
          elim (cases_eq y k) [
            | inl e ↦ has_right set more x (s.1 x (subst (λ (z : ℕ). Linked links z x) e m))
            | inr ne ↦ elim (either_has set more y h) [
              | inl q ↦ has_left set more x (r.2 y x (omega arith) q m)
              | inr q ↦ let p = upward_link up (s.0 y q) in absurd (omega arith)
            ]
          ]

  followed : (set : ℕ) → ((y x : ℕ) → has set y ≡ true → Linked links y x → has set x ≡ true)
      → {a x : ℕ} → has set a ≡ true → Up links a x → has set x ≡ true
  followed set closed h stay = h
  followed set closed h (climb m u) = followed set closed (closed _ _ h m) u

  pub rising_whole : (set : ℕ) → t < n → Rising links t 0 set → Above n links t set
  rising_whole set l r = (
    λ x h. (l, r.0 x h),
    λ x p u. followed set (λ y z h m. r.2 y z (omega arith) h m) r.1 u,
  )

pub none_above : (n t : ℕ) (links : List Link) → n ≤ t → Above n links t 0
none_above n t links h = (λ x k. absurd (both_ways (has 0 x) (has_none x) k), λ x p u. absurd (omega arith))
