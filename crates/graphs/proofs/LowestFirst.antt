-- Fields of a listing, byte by byte.
use Rattle.std.proofs.Common.{◌≡◌, ℕ, zero, suc, ◌+◌, ◌*◌, ◌<◌, ◌≤◌, List, [], ◌∷◌, length, ◌++◌, ◌^◌, get_or, take, drop, sym, refl, ap, ◌∙◌, subst, add-zero, add-one, arith, drop-cons, take_all, length-append, length-drop}
use Rattle.std.specs.Int.Digits.{AllBelowBase}
use Rattle.features.specs.Listing.{little}
use Rattle.features.specs.Bytes.{from_little}
use Rattle.features.proofs.Bytes.{from_little_8, from_little_lt, little_from_little}
use Rattle.graphs.specs.Listings.{field}

-- the k bytes at a place
pub bytes_at : List ℕ → ℕ → ℕ → List ℕ
bytes_at bs p zero = []
bytes_at bs p (suc k) = get_or bs p 0 ∷ bytes_at bs (p + 1) k

pub take_drop : (bs : List ℕ) (p k : ℕ) → p + k ≤ length bs → take k (drop p bs) ≡ bytes_at bs p k
unfolding bytes_at
take_drop bs p zero h = refl
take_drop bs p (suc k) h =
    let first : drop p bs ≡ get_or bs p 0 ∷ drop (suc p) bs = drop-cons bs p 0 (omega arith) in
    ap (take (suc k)) first ∙ ap (λ (z : ℕ). get_or bs p 0 ∷ take k (drop z bs)) (sym (add-one p)) ∙ ap (λ (z : List ℕ). get_or bs p 0 ∷ z) (take_drop bs (p + 1) k (omega arith))

-- eight bytes as one number, and eight zeros
abbrev pub worth_of_8 : List ℕ → ℕ
worth_of_8 bs = get_or bs 0 0 + get_or bs 1 0 * 256 + get_or bs 2 0 * 65536 + get_or bs 3 0 * 16777216 + get_or bs 4 0 * 4294967296 + get_or bs 5 0 * 1099511627776 + get_or bs 6 0 * 281474976710656 + get_or bs 7 0 * 72057594037927936

abbrev pub zeros : List ℕ
zeros = 0 ∷ 0 ∷ 0 ∷ 0 ∷ 0 ∷ 0 ∷ 0 ∷ 0 ∷ []

pub field_8 : (bs : List ℕ) (p : ℕ) → p + 8 ≤ length bs → field bs p 8 ≡ get_or bs p 0 + get_or bs (p + 1) 0 * 256 + get_or bs (p + 2) 0 * 65536 + get_or bs (p + 3) 0 * 16777216 + get_or bs (p + 4) 0 * 4294967296 + get_or bs (p + 5) 0 * 1099511627776 + get_or bs (p + 6) 0 * 281474976710656 + get_or bs (p + 7) 0 * 72057594037927936
unfolding bytes_at
field_8 bs p h =
    let e2 : p + 1 + 1 ≡ p + 2 = omega arith in
    let e3 : p + 1 + 1 + 1 ≡ p + 3 = omega arith in
    let e4 : p + 1 + 1 + 1 + 1 ≡ p + 4 = omega arith in
    let e5 : p + 1 + 1 + 1 + 1 + 1 ≡ p + 5 = omega arith in
    let e6 : p + 1 + 1 + 1 + 1 + 1 + 1 ≡ p + 6 = omega arith in
    let e7 : p + 1 + 1 + 1 + 1 + 1 + 1 + 1 ≡ p + 7 = omega arith in
    ap from_little (take_drop bs p 8 h)
    ∙ from_little_8 (get_or bs p 0) (get_or bs (p + 1) 0) (get_or bs (p + 1 + 1) 0) (get_or bs (p + 1 + 1 + 1) 0) (get_or bs (p + 1 + 1 + 1 + 1) 0) (get_or bs (p + 1 + 1 + 1 + 1 + 1) 0) (get_or bs (p + 1 + 1 + 1 + 1 + 1 + 1) 0) (get_or bs (p + 1 + 1 + 1 + 1 + 1 + 1 + 1) 0)
    ∙ (λ i. get_or bs p 0 + get_or bs (p + 1) 0 * 256 + get_or bs (e2 i) 0 * 65536 + get_or bs (e3 i) 0 * 16777216 + get_or bs (e4 i) 0 * 4294967296 + get_or bs (e5 i) 0 * 1099511627776 + get_or bs (e6 i) 0 * 281474976710656 + get_or bs (e7 i) 0 * 72057594037927936)

pub bytes_alike : (bs cs : List ℕ) (p q k : ℕ) → ((i : ℕ) → i < k → get_or bs (p + i) 0 ≡ get_or cs (q + i) 0) → bytes_at bs p k ≡ bytes_at cs q k
unfolding bytes_at
bytes_alike bs cs p q zero same = refl
bytes_alike bs cs p q (suc k) same =
    let first : get_or bs p 0 ≡ get_or cs q 0 = simp add-zero at (same 0 (omega arith)) in
    let later = bytes_alike bs cs (p + 1) (q + 1) k (λ i l. let a : p + 1 + i ≡ p + (i + 1) = omega arith in let b : q + (i + 1) ≡ q + 1 + i = omega arith in ap (λ (z : ℕ). get_or bs z 0) a ∙ same (i + 1) (omega arith) ∙ ap (λ (z : ℕ). get_or cs z 0) b) in
    (λ i. first i ∷ later i)

-- zeros put after the bytes of a number
zeros_left : (k : ℕ) (zs : List ℕ) → from_little zs ≡ 0 → from_little (drop k zs) ≡ 0
zeros_left zero zs e = e
zeros_left (suc k) [] e = refl
zeros_left (suc k) (z ∷ zs) e = zeros_left k zs (omega (arith, e))

padded : (xs zs : List ℕ) → from_little zs ≡ 0 → from_little (xs ++ zs) ≡ from_little xs
padded [] zs e = e
padded (x ∷ xs) zs e = ap (λ (z : ℕ). x + 256 * z) (padded xs zs e)

pub number_padded : (k : ℕ) (xs : List ℕ) (n : ℕ) → length xs ≡ k → k ≤ 8 → n ≡ worth_of_8 (xs ++ drop k zeros) → n ≡ from_little xs
number_padded k xs n long l e =
    let all : List ℕ = xs ++ drop k zeros in
    let eight : length all ≡ 8 = omega (arith, long, length-append xs (drop k zeros), length-drop k zeros) in
    e ∙ sym (field_8 all 0 (omega arith)) ∙ ap from_little (take_all 8 all (omega arith)) ∙ padded xs (drop k zeros) (zeros_left k zeros refl)

length_bytes : (bs : List ℕ) (p k : ℕ) → length (bytes_at bs p k) ≡ k
unfolding bytes_at
length_bytes bs p zero = refl
length_bytes bs p (suc k) = ap suc (length_bytes bs (p + 1) k)

-- where each element fits one byte
module _ (bs : List ℕ) (typed : (i : ℕ) → get_or bs i 0 < 256) where
  under_at : (p k : ℕ) → AllBelowBase 256 (bytes_at bs p k)
  unfolding bytes_at
  under_at p zero = tt
  under_at p (suc k) = (typed p, under_at (p + 1) k)

  pub little_field : (p k : ℕ) → p + k ≤ length bs → little k (field bs p k) ≡ take k (drop p bs)
  little_field p k h =
      let is = take_drop bs p k h in
      ap (λ (z : List ℕ). little k (from_little z)) is ∙ ap (λ (z : ℕ). little z (from_little (bytes_at bs p k))) (sym (length_bytes bs p k)) ∙ little_from_little (bytes_at bs p k) (under_at p k) ∙ sym is

  pub field_small : (p k : ℕ) → p + k ≤ length bs → field bs p k < 256 ^ k
  field_small p k h = rw (take_drop bs p k h) (subst (λ (z : ℕ). from_little (bytes_at bs p k) < 256 ^ z) (length_bytes bs p k) (from_little_lt (bytes_at bs p k) (under_at p k)))
