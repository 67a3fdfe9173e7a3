-- Which sets of bits answer the grounds of a refusal.
use Rattle.std.proofs.Common.{◌≡◌, ℕ, ◌-◌, ◌^◌, ◌<◌, ◌≤◌, ◌≢◌, true, false, List, length, get_or, slice_index, eqb, MatchBool, sym, ◌∙◌, subst, inl, inr, arith}
use lib.Bits.{bit_and, bit_or, and_le_r}
use Rattle.std.proofs.lemmas.Bool.{cases_Bool, both_ways, cases_eq, eq-eqb, ne_eqb}
use Rattle.kinds.specs.Hierarchy.{Under, Common, Lowest, UnderLowest, Parted, Astray}
use Rattle.kinds.specs.Hierarchy.Astray.{at_top, outside, bare}
use Rattle.kinds.specs.Masks.{has, LowestTaken}
use Rattle.kinds.specs.BitSets.{has_none, has_one, only_one, has_both, both_have, has_left, has_right, either_has, has_lacking, lacking_has, bit_small}
use Rattle.kinds.proofs.Members.{has_some}

-- two types, and the bits that their sets share
module _ (below : List ℕ) (a b x y : ℕ) (ex : x ≡ slice_index below a) (ey : y ≡ slice_index below b) where
  common_bit : (c : ℕ) → Common below a b c → has (bit_and x y) c ≡ true
  common_bit c m = has_both x y c (rw ex m.0) (rw ey m.1)

  pub bit_common : (c : ℕ) → has (bit_and x y) c ≡ true → Common below a b c
  bit_common c h = let p = both_have x y c h in (rw (← ex) p.0, rw (← ey) p.1)

  pub none_common : ((t : ℕ) → has (bit_and x y) t ≡ true → ⊥) → UnderLowest below a b
  none_common none d l = absurd (none d (common_bit d l.0))

  -- the lowest of these, and the set of it
  module _ (d z : ℕ) (ez : z ≡ slice_index below d) (at : has (bit_and x y) d ≡ true)
      (least : (u : ℕ) → has (bit_and x y) u ≡ true → d ≤ u) (x-fits : x < 2 ^ 64) (z-fits : z < 2 ^ 64) where
    lowest : Lowest below a b d
    lowest = (bit_common d at, λ c m. least c (common_bit c m))

    under : bit_and (bit_and x y) (2 ^ 64 - 1 - z) ≡ 0 → UnderLowest below a b
    under none e l c m =
        let p = l.1 d lowest.0 in let q = lowest.1 e l.0 in let same : d ≡ e = omega arith in
        elim (cases_Bool (has z c)) [
          | inl h ↦ subst (λ (t : ℕ). Under below c t) same (rw (← ez) h)
          | inr h ↦ let k = common_bit c m in absurd
              (both_ways (has 0 c) (has_none c)
              (subst (λ (t : ℕ). has t c ≡ true) none
              (has_both (bit_and x y) (2 ^ 64 - 1 - z) c k
              (has_lacking z c z-fits (bit_small x c x-fits (both_have x y c k).0) h))))
        ]

    parted : (t : ℕ) → has (bit_and (bit_and x y) (2 ^ 64 - 1 - z)) t ≡ true → Parted below a b
    parted t h =
        let p = both_have (bit_and x y) (2 ^ 64 - 1 - z) t h in (
          d,
          lowest,
          (t, bit_common t p.0, λ u. both_ways (has z t) (lacking_has z t z-fits p.1).1 (rw ez u)),
        )

    -- all that they share is in it, or something is not
    pub beyond_answers : MatchBool (eqb (bit_and (bit_and x y) (2 ^ 64 - 1 - z)) 0) (UnderLowest below a b) (Parted below a b)
    beyond_answers =
        elim (cases_eq (bit_and (bit_and x y) (2 ^ 64 - 1 - z)) 0) [
          | inl e ↦ rw (eq-eqb (bit_and (bit_and x y) (2 ^ 64 - 1 - z)) 0 e) (under e)
          | inr ne ↦
              let le = and_le_r (bit_and x y) (2 ^ 64 - 1 - z) in
              let f = has_some (bit_and (bit_and x y) (2 ^ 64 - 1 - z)) (omega arith) (omega arith) in
              rw (ne_eqb (bit_and (bit_and x y) (2 ^ 64 - 1 - z)) 0 ne) (parted f.0 f.1)
        ]

-- the types at or below the marked ones, but for those that are left
abbrev pub Covering : List ℕ → ℕ → ℕ → ℕ → Type 0
Covering below marks left types =
    ((u : ℕ) → has left u ≡ true → has marks u ≡ true)
    × ((c : ℕ) → has types c ≡ true → (u : ℕ) × (u < length below) × (has marks u ≡ true) × Under below c u)
    × ((c u : ℕ) → u < length below → has marks u ≡ true → has left u ≡ false → Under below c u → has types c ≡ true)

pub covering_none : (below : List ℕ) (marks : ℕ) → Covering below marks marks 0
covering_none below marks = (
  λ u h. h,
  λ c h. absurd (both_ways (has 0 c) (has_none c) h),
  λ c u h m out v. absurd (both_ways (has marks u) out m),
)

-- the lowest that is left is taken, with the types of its set if it is a type
module _ (below : List ℕ) (marks left t rest types : ℕ) (w : Covering below marks left types) (taken : LowestTaken left t rest) where
  still : (u : ℕ) → has rest u ≡ true → has marks u ≡ true
  still u h =
      elim (cases_eq u t) [
        | inl e ↦ absurd (both_ways (has rest t) taken.gone (subst (λ (x : ℕ). has rest x ≡ true) e h))
        | inr ne ↦ w.0 u (sym (taken.others u ne) ∙ h)
      ]

  gone_before : (u : ℕ) → has rest u ≡ false → u ≢ t → has left u ≡ false
  gone_before u out ne = sym (taken.others u ne) ∙ out

  pub covering_past : length below ≤ t → Covering below marks rest types
  covering_past past = (
    still,
    w.1,
    λ c u h m out v. w.2 c u h m (gone_before u out (λ e. omega arith)) v,
  )

  pub covering_more : t < length below → Covering below marks rest (bit_or types (get_or below t 0))
  covering_more inside = (
    still,
    λ c h. elim (either_has types (get_or below t 0) c h) [ inl q ↦ w.1 c q | inr q ↦ (t, inside, w.0 t taken.present, q) ],
    λ c u h m out v. elim (cases_eq u t) [
      | inl e ↦ has_right types (get_or below t 0) c (subst (λ (x : ℕ). Under below c x) e v)
      | inr ne ↦ has_left types (get_or below t 0) c (w.2 c u h m (gone_before u out ne) v)
    ],
  )

-- the types at or below the marked ones
abbrev pub Covers : List ℕ → ℕ → ℕ → Type 0
Covers below marks types =
    ((c : ℕ) → has types c ≡ true → (u : ℕ) × (u < length below) × (has marks u ≡ true) × Under below c u)
    × ((c u : ℕ) → u < length below → has marks u ≡ true → Under below c u → has types c ≡ true)

pub covering_whole : (below : List ℕ) (marks left types : ℕ) → Covering below marks left types
    → ((t : ℕ) → has left t ≢ true) → Covers below marks types
covering_whole below marks left types w none = (
  w.1,
  λ c u h m v. w.2 c u h m (elim (cases_Bool (has left u)) [ inl k ↦ absurd (none u k) | inr k ↦ k ]) v,
)

-- the marks at fault are those that stand on 0 or outside, and those that are missing among the covered
module _ (below : List ℕ) (marks types : ℕ) (w : Covers below marks types) (marks-small : marks < 2 ^ 64)
    (types-small : types < 2 ^ 64) (z : ℕ) (ez : z ≡ slice_index below 0) (all_small : z < 2 ^ 64) where
  pub bit_astray : (t : ℕ) → has (bit_or (bit_and marks (bit_or 1 (2 ^ 64 - 1 - z))) (bit_and types (2 ^ 64 - 1 - marks))) t ≡ true
      → Astray (length below) below marks t
  bit_astray t h =
      elim (either_has (bit_and marks (bit_or 1 (2 ^ 64 - 1 - z))) (bit_and types (2 ^ 64 - 1 - marks)) t h) [
        | inl q ↦ let p = both_have marks (bit_or 1 (2 ^ 64 - 1 - z)) t q in
            elim (either_has 1 (2 ^ 64 - 1 - z) t p.1) [
              | inl one ↦ at_top p.0 (only_one 0 t one)
              | inr out ↦ outside p.0 (λ u. both_ways (has z t) (lacking_has z t all_small out).1 (rw ez u))
            ]
        | inr q ↦ let p = both_have types (2 ^ 64 - 1 - marks) t q in let u = w.0 t p.0 in
            bare u.1 u.2 u.3 (lacking_has marks t marks-small p.1).1
      ]

  pub astray_bit : (t : ℕ) → Astray (length below) below marks t
      → has (bit_or (bit_and marks (bit_or 1 (2 ^ 64 - 1 - z))) (bit_and types (2 ^ 64 - 1 - marks))) t ≡ true
  astray_bit t (at_top m e) =
      has_left (bit_and marks (bit_or 1 (2 ^ 64 - 1 - z))) (bit_and types (2 ^ 64 - 1 - marks)) t
      (has_both marks (bit_or 1 (2 ^ 64 - 1 - z)) t m
      (has_left 1 (2 ^ 64 - 1 - z) t (subst (λ (x : ℕ). has 1 x ≡ true) (sym e) (has_one 0))))
  astray_bit t (outside m out) =
      has_left (bit_and marks (bit_or 1 (2 ^ 64 - 1 - z))) (bit_and types (2 ^ 64 - 1 - marks)) t
      (has_both marks (bit_or 1 (2 ^ 64 - 1 - z)) t m
      (has_right 1 (2 ^ 64 - 1 - z) t
      (has_lacking z t all_small (bit_small marks t marks-small m) (elim (cases_Bool (has z t)) [ inl h ↦ absurd (out (rw (← ez) h)) | inr h ↦ h ]))))
  astray_bit t (bare {u} h m v e) =
      let c = w.1 t u h m v in
      has_right (bit_and marks (bit_or 1 (2 ^ 64 - 1 - z))) (bit_and types (2 ^ 64 - 1 - marks)) t
      (has_both types (2 ^ 64 - 1 - marks) t c (has_lacking marks t marks-small (bit_small types t types-small c) e))
