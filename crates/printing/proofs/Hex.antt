-- Lines of hexadecimal digits.
use Rattle.std.proofs.Common.{add-zero, sym, ap₂, append-nil, inl, inr, [], ◌∷◌, ◌≡◌, ℕ, zero, suc, ◌+◌, ◌-◌, ◌*◌, ◌<◌, ◌≤◌, min, List, [], ◌∷◌, ◌++◌, length, take, drop, refl, ap, ◌∙◌, arith, length-append, length-drop, length-take}
use mathlib.Core.List.{flat_map}
use Rattle.std.proofs.lemmas.List.{take_all, take_at, drop_at, drop-drop, nil_from_length}
use Rattle.std.proofs.lemmas.Bool.{cases_lt}
use Rattle.features.specs.Listing.{along}
use Rattle.features.proofs.Bytes.{along_more}
use Rattle.printing.specs.Texts.{line_end, hex_byte, hex_line, lines_for, hexadecimal}

pub length_hex : (bytes : List ℕ) → length (flat_map hex_byte bytes) ≡ 2 * length bytes
unfolding flat_map
length_hex [] = refl
length_hex (b ∷ bytes) = omega (arith, length_hex bytes)

module _ (bytes : List ℕ) where
  length_line : (k : ℕ) → length (hex_line bytes k) ≡ 2 * min 32 (length bytes - 32 * k) + 1
  unfolding hex_line
  length_line k =
      omega (
        arith,
        length-append (flat_map hex_byte (take 32 (drop (32 * k) bytes))) line_end,
        length_hex (take 32 (drop (32 * k) bytes)),
        length-take 32 (drop (32 * k) bytes),
        length-drop (32 * k) bytes,
      )

  length_lines : (k : ℕ) → length (along (hex_line bytes) 0 k) ≡ 2 * min (32 * k) (length bytes) + k
  length_lines zero = omega arith
  length_lines (suc k) =
      omega (arith, ap length (along_more (hex_line bytes) k), length-append (along (hex_line bytes) 0 k) (hex_line bytes k), length_line k, length_lines k)

  pub length_hexadecimal : length (hexadecimal bytes) ≡ 2 * length bytes + lines_for (length bytes)
  unfolding hexadecimal
  length_hexadecimal = omega (arith, length_lines (lines_for (length bytes)))

pub hexadecimal_none : hexadecimal [] ≡ []
unfolding hexadecimal
hexadecimal_none = refl

shifted : (f h : ℕ → List ℕ) (a b k : ℕ) → ((i : ℕ) → i < k → f (a + i) ≡ h (b + i)) → along f a k ≡ along h b k
shifted f h a b zero e = refl
shifted f h a b (suc k) e =
    let first = sym (ap f (add-zero a)) ∙ e 0 (omega arith) ∙ ap h (add-zero b) in
    let rest = shifted f h (suc a) (suc b) k (λ i l. ap f (omega arith) ∙ e (suc i) (omega arith) ∙ ap h (omega arith)) in
    ap₂ (λ (s t : List ℕ). s ++ t) first rest

-- the first bytes, as many as a line has, are a line, and the others have the other lines
module _ (all line rest : List ℕ) (parts : all ≡ line ++ rest) (size : length line ≡ min 32 (length all)) (some : 0 < length all) where
  sum : length all ≡ length line + length rest
  sum = ap length parts ∙ length-append line rest

  first_line : flat_map hex_byte line ++ line_end ≡ hex_line all 0
  unfolding hex_line
  first_line =
      let front : take 32 all ≡ line =
      elim (cases_lt (length rest) 1) [
        | inl none ↦
            let last : rest ≡ [] = nil_from_length rest (omega (arith, sum)) in
            take_all 32 all (omega (arith, sum, size)) ∙ parts ∙ ap (λ (t : List ℕ). line ++ t) last ∙ append-nil line
        | inr more ↦ ap (take 32) parts ∙ take_at line rest 32 (omega (arith, sum, size))
      ]
      in
      ap (λ (t : List ℕ). flat_map hex_byte t ++ line_end) (sym front)

  other_line : (i : ℕ) → i < lines_for (length rest) → hex_line all (1 + i) ≡ hex_line rest (0 + i)
  unfolding hex_line
  other_line i l =
      let whole : length line ≡ 32 = omega (arith, sum, size) in
      let start : 32 * (1 + i) ≡ 32 + 32 * (0 + i) = omega arith in
      let cut =
      ap (λ (k : ℕ). drop k all) start ∙ sym (drop-drop (32 * (0 + i)) 32 all)
      ∙ ap (drop (32 * (0 + i))) (ap (drop 32) parts ∙ drop_at line rest 32 whole) in
      ap (λ (t : List ℕ). flat_map hex_byte (take 32 t) ++ line_end) cut

  pub hexadecimal_first : (flat_map hex_byte line ++ line_end) ++ hexadecimal rest ≡ hexadecimal all
  unfolding hexadecimal
  hexadecimal_first =
      let count : lines_for (length all) ≡ suc (lines_for (length rest)) = omega (arith, sum, size) in
      ap₂ (λ (s t : List ℕ). s ++ t) first_line (sym (shifted (hex_line all) (hex_line rest) 1 0 (lines_for (length rest)) other_line))
      ∙ sym (ap (along (hex_line all) 0) count)

-- at most 27,016 bytes take at most 54,877
pub hexadecimal_fits : (bytes : List ℕ) → length bytes ≤ 27016 → length (hexadecimal bytes) ≤ 54877
hexadecimal_fits bytes l = omega (arith, length_hexadecimal bytes)
