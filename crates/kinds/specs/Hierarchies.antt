-- The laws that a hierarchy obeys.
use Rattle.std.specs.Prelude.{◌≡◌, ℕ, ◌<◌, ◌≤◌, Bool, true, false, List, Some, None, Option, MatchOption, ◌≢◌, bit_and, nat_lt, slice_index, refl}
use Rattle.std.proofs.Math.Bool.{Bool-set}
use Rattle.std.proofs.Math.Logic.{∥∥₁_elim}
use Rattle.std.proofs.Math.Bridge.{le_prop}
use Rattle.std.proofs.Common.{arith}
use Rattle.std.specs.Int.Count.{count_trailing_zeros}
use Rattle.std.proofs.lemmas.Bool.{and_parts, and_from, ltb-true, lt-ltb}
use Rattle.kinds.specs.Masks.{has, LowestBit}
use Rattle.kinds.specs.Meaning.{Lawful, Both, Greatest}
use Rattle.kinds.specs.Hierarchy.{Sound, Under, Common, Lowest, hierarchy}
use Rattle.kinds.specs.BitSets.{has_both, both_have, lowest_set, lowest_le}

-- where two types have a common one, the lowest bit of the common ones is the lowest
pub lowest_common : (below : List ℕ) (a b c : ℕ) → c < 64 → Common below a b c → (d : ℕ) × Lowest below a b d
lowest_common below a b c h m =
    let both : ℕ = bit_and (slice_index below a) (slice_index below b) in
    let le : (e : ℕ) → Common below a b e → count_trailing_zeros 64 both ≤ e =
    λ e k. lowest_le 64 both e (has_both (slice_index below a) (slice_index below b) e k.0 k.1) in
    let one = le c m in let at = lowest_set 64 both (omega arith) in
    (count_trailing_zeros 64 both, (both_have (slice_index below a) (slice_index below b) (count_trailing_zeros 64 both) at, le))

module _ (n : ℕ) (below : List ℕ) (leaves : ℕ) where
  sound_prop : IsProp (Sound n below leaves)
  sound_prop x y = λ i.
      record {
        some = le_prop x.some y.some i;
        few = le_prop x.few y.few i;
        same = λ t h. Bool-set _ _ (x.same t h) (y.same t h) i;
        types = λ c t h u. le_prop (x.types c t h u) (y.types c t h u) i;
        numbered = λ c t h u. le_prop (x.numbered c t h u) (y.numbered c t h u) i;
        trans = λ u v w h p q. Bool-set _ _ (x.trans u v w h p q) (y.trans u v w h p q) i;
        top = λ c h. Bool-set _ _ (x.top c h) (y.top c h) i;
        meets = λ a b h k d l c m. Bool-set _ _ (x.meets a b h k d l c m) (y.meets a b h k d l c m) i;
        leaf_type = λ v h. le_prop (x.leaf_type v h) (y.leaf_type v h) i;
        leaf_low = λ v h. le_prop (x.leaf_low v h) (y.leaf_low v h) i;
        leaf_below = λ v w h u. Bool-set _ _ (x.leaf_below v w h u) (y.leaf_below v w h u) i;
      }

  pub sound_known : ∥ Sound n below leaves ∥₁ → Sound n below leaves
  sound_known s = ∥∥₁_elim s sound_prop (λ x. x)

  module _ (s : Sound n below leaves) where
    -- what the order of the meaning says, by parts
    pub below_parts : (v w : ℕ) → (hierarchy n below leaves).below v w ≡ true → (w < n) × Under below v w
    below_parts v w h = let p = and_parts (nat_lt w n) (has (slice_index below w) v) h in (ltb-true w n p.0, p.1)

    pub below_from : (v w : ℕ) → w < n → Under below v w → (hierarchy n below leaves).below v w ≡ true
    below_from v w h u = and_from (nat_lt w n) (has (slice_index below w) v) (lt-ltb w n h) u

    -- the lowest common type is the greatest
    pub lowest_greatest : (a b d : ℕ) → a < n → b < n → Lowest below a b d → Greatest (hierarchy n below leaves) a b d
    lowest_greatest a b d h k l = (
      (below_from d a h l.0.0, below_from d b k l.0.1),
      λ e m. below_from e d (s.types d a h l.0.0)
          (s.meets a b h k d l e ((below_parts e a m.0).1, (below_parts e b m.1).1)),
    )

    -- so the lowest bit that the sets of two types share answers their meet
    pub meet_answered : (a b : ℕ) → a < n → b < n → (r : Option ℕ) → LowestBit (bit_and (slice_index below a) (slice_index below b)) r
        → MatchOption r ((c : ℕ) → Both (hierarchy n below leaves) a b c → ⊥) (λ d. Greatest (hierarchy n below leaves) a b d)
    meet_answered a b h k None none = λ c m. none c (has_both (slice_index below a) (slice_index below b) c (below_parts c a m.0).1 (below_parts c b m.1).1)
    meet_answered a b h k (Some d) found = lowest_greatest a b d h k (both_have (slice_index below a) (slice_index below b) d found.1, λ c m. found.2 c (has_both (slice_index below a) (slice_index below b) c m.0 m.1))

    greatest_common : (a b c : ℕ) → Both (hierarchy n below leaves) a b c → (d : ℕ) × Greatest (hierarchy n below leaves) a b d
    greatest_common a b c m =
        let p = below_parts c a m.0 in let q = below_parts c b m.1 in
        let small = s.types c a p.0 p.1 in let few = s.few in
        let d = lowest_common below a b c (omega arith) (p.1, q.1) in
        (d.0, lowest_greatest a b d.0 p.0 q.0 d.1)

    not_leaf : (b : Bool) → (b ≢ true) → b ≡ false
    not_leaf true h = absurd (h refl)
    not_leaf false h = refl

    pub hierarchy_lawful : Lawful (hierarchy n below leaves)
    hierarchy_lawful =
        record {
          bounded = λ v h. let p = ltb-true v n h in let few = s.few in omega arith;
          top_value = lt-ltb 0 n s.some;
          under_top = λ v h. below_from v 0 s.some (s.top v (ltb-true v n h));
          values = λ v w h. let p = below_parts v w h in (lt-ltb v n (s.types v w p.0 p.1), lt-ltb w n p.0);
          same = λ v h. below_from v v (ltb-true v n h) (s.same v (ltb-true v n h));
          trans = λ u v w h k. let p = below_parts u v h in let q = below_parts v w k in below_from u w q.0 (s.trans u v w q.0 p.1 q.1);
          antisym = λ v w h k.
              let p = below_parts v w h in let q = below_parts w v k in
              let l = s.numbered v w p.0 p.1 in let m = s.numbered w v q.0 q.1 in omega arith;
          leaf_value = λ v h. lt-ltb v n (s.leaf_type v h);
          leaf_below = λ v w h k. s.leaf_below v w h (below_parts v w k).1;
          top_open = not_leaf (has leaves 0) (λ h. let l = s.leaf_low 0 h in omega arith);
          meets = greatest_common;
        }
