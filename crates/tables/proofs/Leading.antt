-- What a row shows after one of its attributes was made to lead somewhere.
use Rattle.std.proofs.Common.{◌≡◌, ℕ, ◌*◌, ◌/◌, ◌%◌, ◌^◌, ◌<◌, Bool, true, false, cond, ◌&&◌, ◌||◌, eqb, ltb, List, length, get_or, set, refl, ap, ◌∙◌, arith, get_or-set_other, get_or-set_same, lt-ltb}
use mathlib.Core.Option.{some, none}
use lib.Bits.{bit_and, bit_or}
use Rattle.std.proofs.lemmas.Bool.{both_ways, and_from}
use Rattle.std.proofs.lemmas.Nat.{one_shl, and_mask}
use Rattle.kinds.specs.Masks.{has}
use Rattle.kinds.specs.BitSets.{has_or, has_one, power_alone}
use Rattle.tables.specs.declared.node.Node.{Node}
use Rattle.tables.specs.Views.{edge_of}

or_right : (b : Bool) → (b || true) ≡ true
or_right true = refl
or_right false = refl

or_left : (b : Bool) → (b || false) ≡ b
or_left true = refl
or_left false = refl

-- the bit of an attribute
bit : (a : ℕ) → a < 32 → 1 * 2 ^ a % 4294967296 ≡ 2 ^ a
bit a h = one_shl a 32 h

shown : (v p q : ℕ) (ts us : List ℕ) (b : ℕ) → has p b ≡ has q b → get_or ts b 0 ≡ get_or us b 0
    → edge_of (record { value = v; present = p; targets = ts }) b ≡ edge_of (record { value = v; present = q; targets = us }) b
shown v p q ts us b e f = cc

-- the attribute that was set
pub set_leads : (v p : ℕ) (ts : List ℕ) (a t : ℕ) → a < 32 → length ts ≡ 32
    → edge_of (record { value = v; present = bit_or p (1 * 2 ^ a % 4294967296); targets = set ts a t }) a ≡ some t
set_leads v p ts a t h l =
    let below : ltb a 32 ≡ true = lt-ltb a 32 h in
    let there : has (bit_or p (1 * 2 ^ a % 4294967296)) a ≡ true = ap (λ (x : ℕ). has (bit_or p x) a) (bit a h) ∙ has_or p (2 ^ a) a ∙ ap (λ (x : Bool). has p a || x) (has_one a) ∙ or_right (has p a) in
    let short : a < length ts = omega arith in
    let put = get_or-set_same ts a t 0 short in
    cond_holds (ltb a 32) (has (bit_or p (1 * 2 ^ a % 4294967296)) a) below there (get_or (set ts a t) a 0) ∙ ap some put
  where
    cond_holds : (x y : Bool) → x ≡ true → y ≡ true → (n : ℕ) → cond (x && y) (some n) none ≡ some n
    cond_holds true true e f n = refl
    cond_holds true false e f n = absurd (both_ways false refl f)
    cond_holds false y e f n = absurd (both_ways false refl e)

-- the others
pub set_others : (v p : ℕ) (ts : List ℕ) (a t b : ℕ) → a < 32 → (b ≡ a → ⊥)
    → edge_of (record { value = v; present = bit_or p (1 * 2 ^ a % 4294967296); targets = set ts a t }) b ≡ edge_of (record { value = v; present = p; targets = ts }) b
set_others v p ts a t b h n =
    let same : has (bit_or p (1 * 2 ^ a % 4294967296)) b ≡ has p b = ap (λ (x : ℕ). has (bit_or p x) b) (bit a h) ∙ has_or p (2 ^ a) b ∙ ap (λ (x : Bool). has p b || x) (power_alone a b n) ∙ or_left (has p b) in
    shown v (bit_or p (1 * 2 ^ a % 4294967296)) p (set ts a t) ts b same (get_or-set_other ts a b t 0 n)

-- a test of the code, and the bit that it tests
pub bit_test : (p a : ℕ) → eqb (bit_and (p / 2 ^ a) 1) 1 ≡ has p a
unfolding has
bit_test p a = ap (λ (x : ℕ). eqb x 1) (and_mask (p / 2 ^ a) 1)

pub absent : (r : Node) (a : ℕ) → (ltb a 32 && has r.present a) ≡ false → edge_of r a ≡ none
absent r a e = ap (λ (x : Bool). cond x (some (get_or r.targets a 0)) none) e

pub present : (r : Node) (a : ℕ) → (ltb a 32 && has r.present a) ≡ true → edge_of r a ≡ some (get_or r.targets a 0)
present r a e = ap (λ (x : Bool). cond x (some (get_or r.targets a 0)) none) e

pub and_false : (b : Bool) → (b && false) ≡ false
and_false true = refl
and_false false = refl

pub not_present : (node : Node) (c : ℕ) → has node.present c ≡ false → edge_of node c ≡ none
not_present node c e = absent node c (ap (λ (b : Bool). ltb c 32 && b) e ∙ and_false (ltb c 32))

-- an attribute that a node has leads somewhere
pub shown_edge : (node : Node) (c : ℕ) → c < 32 → has node.present c ≡ true → edge_of node c ≡ some (get_or node.targets c 0)
shown_edge node c l e = present node c (and_from _ _ (lt-ltb c 32 l) e)
