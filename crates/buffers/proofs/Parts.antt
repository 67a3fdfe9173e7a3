-- A part of a buffer overwritten.
use Rattle.std.proofs.Common.{◌≡◌, ℕ, ◌+◌, ◌-◌, ◌≤◌, List, ◌++◌, length, take, drop, sym, ap, ◌∙◌, append_assoc, arith, length-append, length-drop}
use Rattle.std.proofs.lemmas.List.{length-take-le, take_at, drop_at}

-- `middle` stands in a buffer from `at` on, in place of as many bytes
module _ (at : ℕ) (buffer middle bytes : List ℕ) (same : middle ≡ bytes) (fits : at + length bytes ≤ length buffer) where
  abbrev after : List ℕ
  after = take at buffer ++ (middle ++ drop (at + length bytes - at) (drop at buffer))

  front_length : length (take at buffer ++ bytes) ≡ at + length bytes
  front_length = omega (arith, length-append (take at buffer) bytes, length-take-le at buffer (omega arith))

  parts : after ≡ (take at buffer ++ bytes) ++ drop (length bytes) (drop at buffer)
  parts =
      ap (λ (s : List ℕ). take at buffer ++ (s ++ drop (at + length bytes - at) (drop at buffer))) same
      ∙ ap (λ (k : ℕ). take at buffer ++ (bytes ++ drop k (drop at buffer))) (omega arith)
      ∙ sym (append_assoc (take at buffer) bytes (drop (length bytes) (drop at buffer)))

  pub front_written : take (at + length bytes) after ≡ take at buffer ++ bytes
  front_written = ap (take (at + length bytes)) parts ∙ take_at (take at buffer ++ bytes) (drop (length bytes) (drop at buffer)) (at + length bytes) front_length

  pub rest_left : drop (at + length bytes) after ≡ drop (length bytes) (drop at buffer)
  rest_left = ap (drop (at + length bytes)) parts ∙ drop_at (take at buffer ++ bytes) (drop (length bytes) (drop at buffer)) (at + length bytes) front_length

  pub room_left : length bytes + length (drop (at + length bytes) after) ≡ length (drop at buffer)
  room_left = omega (arith, ap length rest_left, length-drop (length bytes) (drop at buffer), length-drop at buffer)
