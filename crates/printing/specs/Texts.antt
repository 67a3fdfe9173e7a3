-- What is printed, byte by byte.
use Rattle.std.specs.Prelude.{ℕ, ◌+◌, ◌*◌, ◌/◌, ◌%◌, Bool, true, false, List, [], ◌∷◌, ◌++◌, length, take, drop, Some, None, Ok, Err, codes, decimal, Result}
use Rattle.std.proofs.Math.Option.{Option, some, none}
use mathlib.Core.List.{flat_map}
use Rattle.std.specs.Fmt.{digit_glyph}
use Rattle.std.specs.declared.option.Option as rust
use Rattle.features.specs.Listing.{along}
use Rattle.features.specs.Terms.{Term}
use Rattle.answers.specs.Answers.{Answer, declares, states, says, gives, lists}
use Rattle.answers.specs.Refusals as refusals
use Rattle.answers.specs.declared.refusal.Refusal.{Refusal}
use Rattle.answers.specs.declared.refusal.Refusal.TheVariants.{Undeclared, LongTerm, NoAttribute, NoSuchValue, ShortTrail, ApartsFull, ValueClash, LeafClash, ApartClash, VariablesFull, NodesFull, ShortBuffer}
use Rattle.notation.specs.Notation.{space, written_term}
use Rattle.notation.specs.Reads as reads
use Rattle.notation.specs.declared.malformed.Malformed.{Malformed}
use Rattle.notation.specs.declared.malformed.Malformed.TheVariants.{TooLong, Unfit}

abbrev pub line_end : List ℕ
line_end = 10 ∷ []

-- a word after others
abbrev pub spaced : List ℕ → List ℕ
spaced word = space ∷ word

-- 0 to 9 and a to f
abbrev pub hex_digit : ℕ → ℕ
hex_digit n = digit_glyph false n

-- two digits, the high one first
abbrev pub hex_byte : ℕ → List ℕ
hex_byte b = hex_digit (b / 16) ∷ hex_digit (b % 16) ∷ []

-- line k has the 32 bytes from 32 k on, or as many as there are
unfoldable pub hex_line : List ℕ → ℕ → List ℕ
hex_line bytes k = flat_map hex_byte (take 32 (drop (32 * k) bytes)) ++ line_end

-- as many lines as the bytes need
abbrev pub lines_for : ℕ → ℕ
lines_for n = (n + 31) / 32

unfoldable pub hexadecimal : List ℕ → List ℕ
hexadecimal bytes = along (hex_line bytes) 0 (lines_for (length bytes))

-- a variable and attributes
abbrev pub term : ℕ → List ℕ → Term
term var path = record { var = var; path = path }

-- what a refusal names, where a trail's attributes stand at the start of a list
abbrev pub named : List ℕ → Refusal → List ℕ
named trail (Undeclared side) = spaced (decimal (refusals.side_number side))
named trail (LongTerm side) = spaced (decimal (refusals.side_number side))
named trail (NoAttribute side position) = spaced (decimal (refusals.side_number side)) ++ spaced (decimal position)
named trail NoSuchValue = []
named trail ShortTrail = []
named trail ApartsFull = []
named trail (ValueClash var count) = spaced (written_term (term var (take count trail)))
named trail (LeafClash var count) = spaced (written_term (term var (take count trail)))
named trail (ApartClash place) = spaced (decimal place)
named trail VariablesFull = []
named trail NodesFull = []
named trail (ShortBuffer size) = spaced (decimal size)

abbrev pub malformed_named : Malformed → List ℕ
malformed_named TooLong = []
malformed_named (Unfit n) = spaced (decimal n)

-- a refusal of some number
unfoldable pub refused_line : ℕ → List ℕ → List ℕ
refused_line number names = codes "refused" ++ spaced (decimal number) ++ names ++ line_end

abbrev pub refusal_text : List ℕ → Refusal → List ℕ
refusal_text trail r = refused_line (refusals.number r) (named trail r)

abbrev pub malformed_text : Malformed → List ℕ
malformed_text why = refused_line (reads.number why) (malformed_named why)

-- a variable that was declared
abbrev pub variable_text : ℕ → List ℕ
variable_text n = codes "ok" ++ spaced (decimal n) ++ line_end

-- a statement that was accepted
abbrev pub accepted_text : Unit {0} → List ℕ
accepted_text u = codes "ok" ++ line_end

-- whether two terms denote one node
abbrev pub sameness_text : Bool → List ℕ
sameness_text true = codes "yes" ++ line_end
sameness_text false = codes "no" ++ line_end

-- a value, where there is one
abbrev pub found_text : rust.Option ℕ → List ℕ
found_text (Some v) = decimal v ++ line_end
found_text None = codes "none" ++ line_end

-- a result, by the text of what is no refusal
abbrev pub answered_text : {T : Type 0} → (T → List ℕ) → List ℕ → Result T Refusal → List ℕ
answered_text text trail (Ok x) = text x
answered_text text trail (Err r) = refusal_text trail r

-- what is printed of an answer
abbrev pub answer_text : Answer → List ℕ
answer_text (declares r) = answered_text variable_text [] r
answer_text (states r after) = answered_text accepted_text after r
answer_text (says r) = answered_text sameness_text [] r
answer_text (gives r) = answered_text found_text [] r
answer_text (lists r after) = answered_text (λ n. hexadecimal (take n after)) [] r

-- the refusal that an answer is, where it is one
abbrev pub error : {T : Type 0} → Result T Refusal → Option Refusal
error (Ok x) = none
error (Err r) = some r

abbrev pub refusal_in : Answer → Option Refusal
refusal_in (declares r) = error r
refusal_in (states r after) = error r
refusal_in (says r) = error r
refusal_in (gives r) = error r
refusal_in (lists r after) = error r
