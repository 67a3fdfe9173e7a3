-- Value sets keep the laws of a kind.
use Rattle.std.specs.Prelude.{◌≡◌, ℕ, ◌-◌, ◌^◌, ◌<◌, ◌≤◌, true, ◌&&◌, ◌==◌, bit_and, nat_lt, refl}
use Rattle.std.proofs.Common.{◌∙◌, mod-eq_of_lt, arith}
use Rattle.std.specs.Int.Bits.{and_self}
use Rattle.std.proofs.lemmas.Nat.{and_mask, and_le_l, and_le_r}
use Rattle.std.proofs.lemmas.Bool.{and_parts, and_from, ltb-true, lt-ltb, eqb-true, eq-eqb}
use Rattle.kinds.specs.Meaning.{Lawful, Both, Greatest}
use Rattle.kinds.specs.ValueSets.{is_set, value_sets}
use Rattle.kinds.specs.Intersections.{part_trans, part_antisym, part_left, part_right, part_both}

abbrev Part : ℕ → ℕ → Type 0
Part v w = (is_set v ≡ true) × (is_set w ≡ true) × (bit_and v w ≡ v)

part : (v w : ℕ) → value_sets.below v w ≡ true → Part v w
part v w below =
    let outer = and_parts (is_set v) (is_set w && bit_and v w == v) below in
    let inner = and_parts (is_set w) (bit_and v w == v) outer.1 in
    (outer.0, inner.0, eqb-true (bit_and v w) v inner.1)

below : (v w : ℕ) → Part v w → value_sets.below v w ≡ true
below v w p = and_from (is_set v) _ p.0 (and_from (is_set w) _ p.1 (eq-eqb (bit_and v w) v p.2))

range : (v : ℕ) → is_set v ≡ true → (0 < v) × (v < 2 ^ 64)
range v set = let p = and_parts (nat_lt 0 v) (nat_lt v (2 ^ 64)) set in (ltb-true 0 v p.0, ltb-true v (2 ^ 64) p.1)

in_range : (v : ℕ) → 0 < v → v < 2 ^ 64 → is_set v ≡ true
in_range v some few = and_from (nat_lt 0 v) _ (lt-ltb 0 v some) (lt-ltb v (2 ^ 64) few)

leaf_range : (v : ℕ) → value_sets.leaf v ≡ true → (0 < v) × (v < 2 ^ 63)
leaf_range v leaf = let p = and_parts (nat_lt 0 v) (nat_lt v (2 ^ 63)) leaf in (ltb-true 0 v p.0, ltb-true v (2 ^ 63) p.1)

part_le : (v w : ℕ) → bit_and v w ≡ v → v ≤ w
part_le v w e = omega (arith, e, and_le_r v w)

-- what two sets share, where they share a bit
pub shared_greatest : (a b : ℕ) → a < 2 ^ 64 → b < 2 ^ 64 → 0 < bit_and a b → Greatest value_sets a b (bit_and a b)
shared_greatest a b ha hb some =
    let left : bit_and a b ≤ a = and_le_l a b in
    let right : bit_and a b ≤ b = and_le_r a b in
    let sa : is_set a ≡ true = in_range a (omega arith) ha in
    let sb : is_set b ≡ true = in_range b (omega arith) hb in
    let shared : is_set (bit_and a b) ≡ true = in_range (bit_and a b) some (omega arith) in (
      (below (bit_and a b) a (shared, sa, part_left a b), below (bit_and a b) b (shared, sb, part_right a b)),
      λ e both. let p = part e a both.0 in let q = part e b both.1 in below e (bit_and a b) (p.0, shared, part_both e a b p.2 q.2),
    )

-- two sets with a common part share a bit
pub shared_some : (a b c : ℕ) → Both value_sets a b c → 0 < bit_and a b
shared_some a b c both =
    let p = part c a both.0 in
    let q = part c b both.1 in
    let e : c ≤ bit_and a b = part_le c (bit_and a b) (part_both c a b p.2 q.2) in
    omega (arith, (range c p.0).0)

pub sets_lawful : Lawful value_sets
sets_lawful = record {
  bounded = λ v set. (range v set).1;
  top_value = refl;
  under_top = λ v set. below v (2 ^ 64 - 1) (set, refl, and_mask v 64 ∙ mod-eq_of_lt (range v set).1);
  values = λ v w h. let p = part v w h in (p.0, p.1);
  same = λ v set. below v v (set, set, and_self v);
  trans = λ u v w h k. let p = part u v h in let q = part v w k in below u w (p.0, q.1, part_trans u v w p.2 q.2);
  antisym = λ v w h k. part_antisym v w (part v w h).2 (part w v k).2;
  leaf_value = λ v leaf. let r = leaf_range v leaf in in_range v r.0 (omega arith);
  leaf_below = λ v w leaf h. let p = part v w h in and_from (nat_lt 0 v) _ (lt-ltb 0 v (range v p.0).0) (lt-ltb v (2 ^ 63) (omega (arith, part_le v w p.2, (leaf_range w leaf).1)));
  top_open = refl;
  meets = λ a b c both. (bit_and a b, shared_greatest a b (range a (part c a both.0).1).1 (range b (part c b both.1).1).1 (shared_some a b c both));
}
