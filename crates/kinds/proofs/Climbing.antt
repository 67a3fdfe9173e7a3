-- What links make of an order: paths upward, and sets of types that follow them.
use Rattle.std.proofs.Common.{◌≡◌, ℕ, zero, suc, ◌+◌, ◌^◌, ◌<◌, ◌≤◌, true, ◌⊎◌, List, [], length, get_or, take, set, map, sym, refl, ap, subst, inl, inr, arith}
use mathlib.Core.List.Memᴰ
use lib.Bits.{bit_or}
use Rattle.std.specs.List.{range_with_len}
use Rattle.std.proofs.lemmas.List.{get_or-set_same, get_or-set_other, get_or_past}
use Rattle.std.proofs.lemmas.List.FromFn.{get_or-map-range_with_len, length-map-range_with_len}
use Rattle.std.proofs.lemmas.Bool.{both_ways, cases_eq, cases_lt}
use Rattle.kinds.specs.declared.types.links.Link.{Link}
use Rattle.kinds.specs.Hierarchy.{Under, AllTypes}
use Rattle.kinds.specs.Masks.{has}
use Rattle.kinds.specs.Types.{Linked, Up, Upward, AllUpward, AllLinked, link_at}
use Rattle.kinds.specs.Types.Up.{stay, climb}
use Rattle.kinds.specs.BitSets.{has_none, has_one, only_one, has_left, has_right, either_has}
use Rattle.kinds.proofs.Places.{place_of, front_more, front_keeps, front_has}

pub upward_link : {n : ℕ} {links : List Link} → AllUpward n links → {a b : ℕ} → Linked links a b → (a < n) × (b < n) × (b < a)
upward_link {n} up m =
    let p = place_of (record { subtype = 0; supertype = 0 }) m in
    subst (λ (l : Link). Upward n l) p.2 (up p.0 p.1)

-- one more link at the upper end of a path, and the last link of a path
pub up_link : {links : List Link} {c x t : ℕ} → Up links c x → Linked links x t → Up links c t
up_link stay m = climb m stay
up_link (climb k u) m = climb k (up_link u m)

pub up_last : {links : List Link} {c t : ℕ} → Up links c t → (c ≡ t) ⊎ ((x : ℕ) × Up links c x × Linked links x t)
up_last stay = inl refl
up_last {links} {c} {t} (climb {b = b} k u) = go (up_last u)
  where
    go : (b ≡ t) ⊎ ((x : ℕ) × Up links b x × Linked links x t) → (c ≡ t) ⊎ ((x : ℕ) × Up links c x × Linked links x t)
    go (inl e) = inr (c, stay, subst (λ (y : ℕ). Linked links c y) e k)
    go (inr p) = inr (p.0, climb k p.1, p.2)

pub up_trans : {links : List Link} {a b c : ℕ} → Up links a b → Up links b c → Up links a c
up_trans stay v = v
up_trans (climb k u) v = climb k (up_trans u v)

-- a path leads to no higher number, and starts at a type
pub up_le : {n : ℕ} {links : List Link} → AllUpward n links → {c t : ℕ} → Up links c t → t ≤ c
up_le up stay = omega arith
up_le up (climb k u) = let p = upward_link up k in let q = up_le up u in omega arith

pub up_type : {n : ℕ} {links : List Link} → AllUpward n links → {c t : ℕ} → Up links c t → t < n → c < n
up_type up stay h = h
up_type up (climb k u) h = (upward_link up k).0

-- where each type but 0 has a link, paths lead to 0
pub up_zero : {n : ℕ} {links : List Link} → AllUpward n links → AllLinked n links
    → (f t : ℕ) → t ≤ f → t < n → Up links t 0
up_zero up linked f zero h l = stay
up_zero up linked zero (suc t) h l = absurd (omega arith)
up_zero up linked (suc f) (suc t) h l =
    let p = linked (suc t) (omega arith) l in let q = upward_link up p.1 in
    climb p.1 (up_zero up linked f p.0 (omega arith) q.1)

-- a set put into one of a list of sets
pub added_same : (b : List ℕ) (p m c : ℕ) → p < length b → has m c ≡ true → Under (set b p (bit_or (get_or b p 0) m)) c p
added_same b p m c h k =
    subst (λ (x : ℕ). has x c ≡ true) (sym (get_or-set_same b p (bit_or (get_or b p 0) m) 0 h)) (has_right (get_or b p 0) m c k)

pub added_keeps : (b : List ℕ) (p m c t : ℕ) → p < length b → Under b c t → Under (set b p (bit_or (get_or b p 0) m)) c t
added_keeps b p m c t h k =
    elim (cases_eq t p) [
      | inl e ↦ subst (λ (y : ℕ). Under (set b p (bit_or (get_or b p 0) m)) c y) (sym e)
          (subst (λ (x : ℕ). has x c ≡ true) (sym (get_or-set_same b p (bit_or (get_or b p 0) m) 0 h))
          (has_left (get_or b p 0) m c (subst (λ (y : ℕ). Under b c y) e k)))
      | inr ne ↦ subst (λ (x : ℕ). has x c ≡ true) (sym (get_or-set_other b p t (bit_or (get_or b p 0) m) 0 ne)) k
    ]

pub added_only : (b : List ℕ) (p m c t : ℕ) → p < length b → Under (set b p (bit_or (get_or b p 0) m)) c t
    → Under b c t ⊎ ((t ≡ p) × (has m c ≡ true))
added_only b p m c t h k =
    elim (cases_eq t p) [
      | inl e ↦ elim
          (either_has (get_or b p 0) m c
          (subst (λ (x : ℕ). has x c ≡ true) (get_or-set_same b p (bit_or (get_or b p 0) m) 0 h)
          (subst (λ (y : ℕ). Under (set b p (bit_or (get_or b p 0) m)) c y) e k)))
          [ inl q ↦ inl (subst (λ (y : ℕ). Under b c y) (sym e) q) | inr q ↦ inr (e, q) ]
      | inr ne ↦ inl (subst (λ (x : ℕ). has x c ≡ true) (get_or-set_other b p t (bit_or (get_or b p 0) m) 0 ne) k)
    ]

-- the set of type s is put into those of its supertypes, by the links of a list
abbrev pub Raised : List Link → ℕ → List ℕ → List ℕ → Type 0
Raised links s old new =
    ((c t : ℕ) → Under new c t → Under old c t ⊎ (Linked links s t × Under old c s))
    × ((c t : ℕ) → Under old c t → Under new c t)
    × ((c t : ℕ) → Linked links s t → Under old c s → Under new c t)

pub raised_none : (s : ℕ) (old : List ℕ) → Raised [] s old old
raised_none s old = (λ c t h. inl h, λ c t h. h, λ c t m. absurd (Memᴰ.not-nil m))

module _ (links : List Link) (i s : ℕ) (old new : List ℕ) (h : i < length links) (r : Raised (take i links) s old new) where
  pub raised_skip : ((link_at links i).subtype ≡ s → ⊥) → Raised (take (i + 1) links) s old new
  raised_skip ne = (only, r.1, all)
    where
      only : (c t : ℕ) → Under new c t → Under old c t ⊎ (Linked (take (i + 1) links) s t × Under old c s)
      only c t k =
          elim (r.0 c t k) [ inl q ↦ inl q | inr q ↦ inr (front_keeps links i (record { subtype = 0; supertype = 0 }) h q.0, q.1) ]

      all : (c t : ℕ) → Linked (take (i + 1) links) s t → Under old c s → Under new c t
      all c t m k =
          elim (front_more links i (record { subtype = 0; supertype = 0 }) h m) [
            | inl q ↦ r.2 c t q k
            | inr e ↦ absurd (ne (sym (ap (λ (l : Link). l.subtype) e)))
          ]

  pub raised_link : (link_at links i).subtype ≡ s → (link_at links i).supertype < length new
      → Raised (take (i + 1) links) s old
      (set new (link_at links i).supertype (bit_or (get_or new (link_at links i).supertype 0) (get_or old s 0)))
  raised_link e l = (only, λ c t k. added_keeps new (link_at links i).supertype (get_or old s 0) c t l (r.1 c t k), all)
    where
      only : (c t : ℕ)
          → Under (set new (link_at links i).supertype (bit_or (get_or new (link_at links i).supertype 0) (get_or old s 0))) c t
          → Under old c t ⊎ (Linked (take (i + 1) links) s t × Under old c s)
      only c t k =
          elim (added_only new (link_at links i).supertype (get_or old s 0) c t l k) [
            | inl q ↦ elim (r.0 c t q) [ inl p ↦ inl p | inr p ↦ inr (front_keeps links i (record { subtype = 0; supertype = 0 }) h p.0, p.1) ]
            | inr q ↦ inr (front_has links i (record { subtype = 0; supertype = 0 }) h (λ j. record { subtype = sym e j; supertype = q.0 j }), q.1)
          ]

      all : (c t : ℕ) → Linked (take (i + 1) links) s t → Under old c s
          → Under (set new (link_at links i).supertype (bit_or (get_or new (link_at links i).supertype 0) (get_or old s 0))) c t
      all c t m k =
          elim (front_more links i (record { subtype = 0; supertype = 0 }) h m) [
            | inl q ↦ added_keeps new (link_at links i).supertype (get_or old s 0) c t l (r.2 c t q k)
            | inr q ↦ subst
                (λ (y : ℕ). Under (set new (link_at links i).supertype (bit_or (get_or new (link_at links i).supertype 0) (get_or old s 0))) c y)
                (sym (ap (λ (l : Link). l.supertype) q)) (added_same new (link_at links i).supertype (get_or old s 0) c l k)
          ]

-- the sets of n types hold what paths lead to, each type itself, and all that comes by a last link from type k or a higher one
abbrev pub Whole : ℕ → List Link → ℕ → List ℕ → Type 0
Whole n links k below =
    ((c t : ℕ) → Under below c t → Up links c t) × ((t : ℕ) → t < n → Under below t t)
    × ((c x t : ℕ) → k ≤ x → Up links c x → Linked links x t → Under below c t)

-- the set of a type that all links to come from above k is whole
pub whole_set : (n : ℕ) (links : List Link) (k : ℕ) (below : List ℕ) → Whole n links k below
    → (c t : ℕ) → t < n → ((x : ℕ) → Linked links x t → k ≤ x) → Up links c t → Under below c t
whole_set n links k below w c t h from u = go (up_last u)
  where
    go : (c ≡ t) ⊎ ((x : ℕ) × Up links c x × Linked links x t) → Under below c t
    go (inl e) = subst (λ (y : ℕ). Under below y t) (sym e) (w.1 t h)
    go (inr p) = w.2 c p.0 t (from p.0 p.2) p.1 p.2

pub whole_more : {n : ℕ} (links : List Link) (old new : List ℕ) → AllUpward n links → (k : ℕ) → k < n
    → Whole n links (suc k) old → Raised links k old new → Whole n links k new
whole_more {n} links old new up k h w r = (only, λ t l. r.1 t t (w.1 t l), all)
  where
    only : (c t : ℕ) → Under new c t → Up links c t
    only c t q = elim (r.0 c t q) [ inl p ↦ w.0 c t p | inr p ↦ up_link (w.0 c k p.1) p.0 ]

    all : (c x t : ℕ) → k ≤ x → Up links c x → Linked links x t → Under new c t
    all c x t l u m =
        elim (cases_lt k x) [
          | inl g ↦ r.1 c t (w.2 c x t (omega arith) u m)
          | inr g ↦ let e : x ≡ k = omega arith in
              r.2 c t (subst (λ (y : ℕ). Linked links y t) e m)
              (whole_set n links (suc k) old w c k h (λ y p. let q = upward_link up p in omega arith) (subst (λ (y : ℕ). Up links c y) e u))
        ]

-- each of n types by itself
pub single_own : (n t : ℕ) → t < n → Under (map (λ k. 2 ^ k) (range_with_len 0 n)) t t
single_own n t h =
    subst (λ (x : ℕ). has x t ≡ true) (sym (get_or-map-range_with_len (λ k. 2 ^ k) 0 n t t 0 h (omega arith))) (has_one t)

pub single_only : (n c t : ℕ) → Under (map (λ k. 2 ^ k) (range_with_len 0 n)) c t → c ≡ t
single_only n c t u =
    elim (cases_lt t n) [
      | inl l ↦ only_one t c (subst (λ (x : ℕ). has x c ≡ true) (get_or-map-range_with_len (λ k. 2 ^ k) 0 n t t 0 l (omega arith)) u)
      | inr past ↦ absurd (both_ways (has 0 c) (has_none c)
          (subst (λ (x : ℕ). has x c ≡ true)
          (get_or_past (map (λ k. 2 ^ k) (range_with_len 0 n)) t 0 (omega (arith, length-map-range_with_len (λ k. 2 ^ k) 0 n))) u))
    ]

-- before any links they are whole from n on
pub whole_singles : {n : ℕ} {links : List Link} → AllUpward n links → (below : List ℕ) → below ≡ map (λ k. 2 ^ k) (range_with_len 0 n)
    → Whole n links n below
whole_singles {n} {links} up below e = (
  λ c t u. subst (λ (x : ℕ). Up links c x) (single_only n c t (subst (λ (l : List ℕ). Under l c t) e u)) stay,
  λ t h. subst (λ (l : List ℕ). Under l t t) (sym e) (single_own n t h),
  λ c x t h u m. let p = upward_link up m in absurd (omega arith),
)

-- sets that hold only what paths lead to hold types alone
pub all_types : {n : ℕ} {links : List Link} → AllUpward n links → (below : List ℕ) → length below ≡ n
    → ((c t : ℕ) → Under below c t → Up links c t) → AllTypes below
all_types {n} up below long only c t u =
    elim (cases_lt t (length below)) [
      | inl l ↦ let p = up_type up (only c t u) (omega arith) in omega arith
      | inr past ↦ absurd (both_ways (has 0 c) (has_none c) (subst (λ (x : ℕ). has x c ≡ true) (get_or_past below t 0 past) u))
    ]
