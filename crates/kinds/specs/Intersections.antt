-- Laws of the bitwise and, read as the intersection of sets of one-bits.
use Rattle.std.specs.Prelude.{◌≡◌, ℕ, zero, suc, ◌+◌, ◌*◌, ◌/◌, ◌%◌, ◌<◌, bit_and, refl}
use Rattle.std.proofs.Common.{sym, ap, ap₂, ◌∙◌, div-add-mod', mod-lt, arith}
use Rattle.std.proofs.Math.Arith.{bin_ind}
use Rattle.std.proofs.lemmas.Nat.{and_shr, and_mod, and_comm}
use Rattle.std.specs.Int.Bits.{and_self}

by_digits : {a b : ℕ} → a / 2 ≡ b / 2 → a % 2 ≡ b % 2 → a ≡ b
by_digits {a} {b} high low = sym (div-add-mod' a 2) ∙ ap₂ (λ (x y : ℕ). x * 2 + y) high low ∙ div-add-mod' b 2

digit_assoc : (x y z : ℕ) → x < 2 → y < 2 → z < 2 → bit_and (bit_and x y) z ≡ bit_and x (bit_and y z)
digit_assoc zero y z hx hy hz = refl
digit_assoc (suc zero) zero z hx hy hz = refl
digit_assoc (suc zero) (suc zero) zero hx hy hz = refl
digit_assoc (suc zero) (suc zero) (suc zero) hx hy hz = refl
digit_assoc (suc zero) (suc zero) (suc (suc z)) hx hy hz = absurd (omega arith)
digit_assoc (suc zero) (suc (suc y)) z hx hy hz = absurd (omega arith)
digit_assoc (suc (suc x)) y z hx hy hz = absurd (omega arith)

pub and_assoc : (a b c : ℕ) → bit_and (bit_and a b) c ≡ bit_and a (bit_and b c)
and_assoc =
    bin_ind (λ (n : ℕ). (b c : ℕ) → bit_and (bit_and n b) c ≡ bit_and n (bit_and b c)) (λ b c. refl)
    (λ n ih b c. by_digits
    (and_shr (bit_and n b) c 1 ∙ ap (λ (x : ℕ). bit_and x (c / 2)) (and_shr n b 1) ∙ ih (b / 2) (c / 2)
    ∙ sym (and_shr n (bit_and b c) 1 ∙ ap (bit_and (n / 2)) (and_shr b c 1)))
    (and_mod (bit_and n b) c 1 ∙ ap (λ (x : ℕ). bit_and x (c % 2)) (and_mod n b 1)
    ∙ digit_assoc (n % 2) (b % 2) (c % 2) (mod-lt n (omega arith)) (mod-lt b (omega arith)) (mod-lt c (omega arith))
    ∙ sym (and_mod n (bit_and b c) 1 ∙ ap (bit_and (n % 2)) (and_mod b c 1))))

pub part_trans : (a b c : ℕ) → bit_and a b ≡ a → bit_and b c ≡ b → bit_and a c ≡ a
part_trans a b c p q = cc (and_assoc a b c)

pub part_antisym : (a b : ℕ) → bit_and a b ≡ a → bit_and b a ≡ b → a ≡ b
part_antisym a b p q = cc (and_comm a b)

pub part_left : (a b : ℕ) → bit_and (bit_and a b) a ≡ bit_and a b
part_left a b = cc (and_comm (bit_and a b) a, and_assoc a a b, and_self a)

pub part_right : (a b : ℕ) → bit_and (bit_and a b) b ≡ bit_and a b
part_right a b = cc (and_assoc a b b, and_self b)

-- a part of both is a part of what they share
pub part_both : (e a b : ℕ) → bit_and e a ≡ e → bit_and e b ≡ e → bit_and e (bit_and a b) ≡ e
part_both e a b p q = cc (and_assoc e a b)
