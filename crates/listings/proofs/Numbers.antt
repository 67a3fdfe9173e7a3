-- The first little-endian bytes of a number.
use Rattle.std.proofs.Common.{◌≡◌, ℕ, zero, suc, ◌+◌, ◌-◌, ◌/◌, ◌%◌, ◌<◌, ◌≤◌, List, [], ◌∷◌, take, refl, ap, ◌∙◌, suc-add, arith}
use Rattle.features.specs.Listing.{little}

take_little : (k j n : ℕ) → take k (little (k + j) n) ≡ little k n
take_little zero j n = refl
take_little (suc k) j n = ap (λ (m : ℕ). take (suc k) (little m n)) (suc-add k j) ∙ ap (λ (t : List ℕ). (n % 256) ∷ t) (take_little k j (n / 256))

pub first_bytes : (k n : ℕ) (bytes : List ℕ) → k ≤ 8 → bytes ≡ little 8 n → take k bytes ≡ little k n
first_bytes k n bytes l e =
    let eight : 8 ≡ k + (8 - k) = omega arith in
    ap (take k) e ∙ ap (λ (m : ℕ). take k (little m n)) eight ∙ take_little k (8 - k) n

pub one_byte : (n : ℕ) → n < 256 → little 1 n ≡ n ∷ []
one_byte n l = let same : n % 256 ≡ n = omega arith in ap (λ (b : ℕ). b ∷ []) same
