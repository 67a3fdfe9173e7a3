-- What the sets of types say of the links that they come from: the grounds of a refusal, and the hierarchy that is filled.
use Rattle.std.proofs.Common.{◌≡◌, ℕ, zero, suc, ◌<◌, ◌≤◌, true, List, sym, refl, subst, inl, inr, arith}
use Rattle.std.proofs.lemmas.Bool.{cases_lt, cases_Bool, cases_order, ltb-true, lt-ltb}
use Rattle.kinds.specs.declared.types.links.Link.{Link}
use Rattle.kinds.specs.Hierarchy.{Under, Common, UnderLowest, Parted, Astray, Sound, hierarchy}
use Rattle.kinds.specs.Hierarchy.Astray.{at_top, outside, bare}
use Rattle.kinds.specs.Masks.{has}
use Rattle.kinds.specs.Types.{Up, AllUpward, AllLinked, Orphan, NotUpward, Shared, Clash, Fault, NoneHas, Least, LeastPair, Described}
use Rattle.kinds.specs.Types.Up.{stay}
use Rattle.kinds.specs.Types.Fault.{on_top, on_none, missing}
use Rattle.kinds.proofs.Climbing.{up_le, up_type, up_trans, up_zero}
use Rattle.kinds.specs.Hierarchies.{lowest_common, below_parts, below_from}

pub none_not_upward : (n : ℕ) (links : List Link) → AllUpward n links → NoneHas (NotUpward n links)
none_not_upward n links up i w = w.1 (up i w.0)

pub none_orphan : (n : ℕ) (links : List Link) → AllLinked n links → NoneHas (Orphan n links)
none_orphan n links linked t o = let p = linked t o.0 o.1 in o.2 p.0 p.1

-- the sets of n types hold what is at or below them by the links
module _ (n : ℕ) (links : List Link) (below : List ℕ) (few : n ≤ 64) (up : AllUpward n links)
    (only : (c t : ℕ) → t < n → Under below c t → Up links c t) (all : (c t : ℕ) → t < n → Up links c t → Under below c t) where
  shared_common : (a b c : ℕ) → a < n → b < n → Shared links a b c → Common below a b c
  shared_common a b c h k s = (all c a h s.0, all c b k s.1)

  common_shared : (a b c : ℕ) → a < n → b < n → Common below a b c → Shared links a b c
  common_shared a b c h k m = (only c a h m.0, only c b k m.1)

  pub parted_clash : (a b : ℕ) → a < b → b < n → Parted below a b → Clash n links a b
  parted_clash a b h k p =
      let d = p.0 in let low = p.1 in let c = p.2.0 in let h' : a < n = omega arith in (
        h,
        k,
        (d, common_shared a b d h' k low.0),
        λ g s greatest.
            let u = greatest d (common_shared a b d h' k low.0) in
            let le = up_le up u in let ge = low.1 g (shared_common a b g h' k s) in let e : g ≡ d = omega arith in
            p.2.2
            (all c d (up_type up (only d a h' low.0.0) h')
            (subst (λ (x : ℕ). Up links c x) e (greatest c (common_shared a b c h' k p.2.1)))),
      )

  pub lowest_no_clash : (a b : ℕ) → UnderLowest below a b → Clash n links a b → ⊥
  lowest_no_clash a b ul (h, k, (c, s), none) =
      let h' : a < n = omega arith in
      let small = up_type up s.0 h' in
      let d = lowest_common below a b c (omega arith) (shared_common a b c h' k s) in
      none d.0 (common_shared a b d.0 h' k d.1.0)
      (λ e t. only e d.0 (up_type up (only d.0 a h' d.1.0.0) h') (ul d.0 d.1 e (shared_common a b e h' k t)))

  pub none_clash : ((x y : ℕ) → x < y → y < n → UnderLowest below x y) → (a b : ℕ) → Clash n links a b → ⊥
  none_clash ul a b c = lowest_no_clash a b (ul a b c.0 c.1) c

  pub least_clash : (a b : ℕ) → a < b → b < n → Parted below a b
      → ((x y : ℕ) → x < a → x < y → y < n → UnderLowest below x y) → ((y : ℕ) → a < y → y < b → UnderLowest below a y)
      → LeastPair (Clash n links) a b
  least_clash a b h k p before within =
      (parted_clash a b h k p, λ x y c. (first x y c, second x y c))
    where
      first : (x y : ℕ) → Clash n links x y → a ≤ x
      first x y c = elim (cases_lt x a) [ inl l ↦ absurd (lowest_no_clash x y (before x y l c.0 c.1) c) | inr l ↦ l ]

      second : (x y : ℕ) → Clash n links x y → x ≡ a → b ≤ y
      second x y c e =
          elim (cases_lt y b) [
            | inl l ↦ let q = c.0 in let g : a < y = omega arith in
                absurd (lowest_no_clash a y (within y g l) (subst (λ (z : ℕ). Clash n links z y) e c))
            | inr l ↦ l
          ]

  -- all types are at or below 0
  module _ (some : 1 ≤ n) (linked : AllLinked n links) where
    under_zero : (t : ℕ) → t < n → Under below t 0
    under_zero t h = all t 0 some (up_zero up linked t t (omega arith) h)

    module _ (marks : ℕ) where
      pub fault_astray : {t : ℕ} → Fault n links marks t → Astray n below marks t
      fault_astray (on_top m) = at_top m refl
      fault_astray {t} (on_none h m) = outside m (λ u. let l = up_type up (only t 0 some u) some in omega arith)
      fault_astray {t} (missing {u = u} h m v e) = bare h m (all t u h v) e

      pub astray_fault : (t : ℕ) → Astray n below marks t → Fault n links marks t
      astray_fault t (at_top m e) = subst (λ (x : ℕ). Fault n links marks x) (sym e) (on_top (subst (λ (x : ℕ). has marks x ≡ true) e m))
      astray_fault t (outside m out) =
          elim (cases_lt t n) [ inl l ↦ absurd (out (under_zero t l)) | inr l ↦ on_none l m ]
      astray_fault t (bare {u} h m v e) = missing h m (only t u h v) e

      pub least_fault : (t : ℕ) → Least (Astray n below marks) t → Least (Fault n links marks) t
      least_fault t l = (astray_fault t l.0, λ u f. l.1 u (fault_astray f))

      -- without a fault the marks are leaves, and the sets make a hierarchy
      module _ (ul : (x y : ℕ) → x < y → y < n → UnderLowest below x y) (right : NoneHas (Fault n links marks)) where
        mark_type : (v : ℕ) → has marks v ≡ true → v < n
        mark_type v m = elim (cases_lt v n) [ inl l ↦ l | inr l ↦ absurd (right v (on_none l m)) ]

        mark_low : (v : ℕ) → has marks v ≡ true → 0 < v
        mark_low zero m = absurd (right 0 (on_top m))
        mark_low (suc v) m = omega arith

        mark_below : (v w : ℕ) → has marks w ≡ true → Under below v w → has marks v ≡ true
        mark_below v w m u =
            elim (cases_Bool (has marks v)) [
              | inl h ↦ h
              | inr h ↦ absurd (right v (missing (mark_type w m) m (only v w (mark_type w m) u) h))
            ]

        all_meet : (a b : ℕ) → a < n → b < n → UnderLowest below a b
        all_meet a b h k d l c m =
            elim (cases_order a b) [
              | inl e ↦ let p = l.1 a (all a a h stay, subst (λ (x : ℕ). Under below a x) e (all a a h stay)) in
                  let q = up_le up (only d a h l.0.0) in let same : a ≡ d = omega arith in
                  subst (λ (x : ℕ). Under below c x) same m.0
              | inr g ↦ elim g [
                | inl lt ↦ ul a b lt k d l c m
                | inr gt ↦ ul b a gt h d ((l.0.1, l.0.0), λ e o. l.1 e (o.1, o.0)) c (m.1, m.0)
              ]
            ]

        pub sound : Sound n below marks
        sound =
            record {
              some = some;
              few = few;
              same = λ t h. all t t h stay;
              types = λ c t h u. up_type up (only c t h u) h;
              numbered = λ c t h u. up_le up (only c t h u);
              trans = λ u v w h p q. all u w h (up_trans (only u v (up_type up (only v w h q) h) p) (only v w h q));
              top = under_zero;
              meets = all_meet;
              leaf_type = mark_type;
              leaf_low = mark_low;
              leaf_below = mark_below;
            }

        pub described : Described n links marks (hierarchy n below marks)
        described =
            record {
              value = λ v. (ltb-true v n, lt-ltb v n);
              top = refl;
              below = λ v w. (
                λ h. let p = below_parts n below marks sound v w h in let u = only v w p.0 p.1 in (up_type up u p.0, p.0, u),
                λ p. below_from n below marks sound v w p.1 (all v w p.1 p.2),
              );
              leaf = λ v. (λ h. (mark_type v h, h), λ p. p.1);
            }
