-- How long what is printed can be.
use Rattle.std.proofs.Common.{◌≡◌, ℕ, zero, suc, ◌+◌, ◌*◌, ◌/◌, ◌%◌, ◌≤◌, Bool, true, false, cond, eqb, List, [], ◌∷◌, ◌++◌, length, take, codes, decimal, Some, None, Ok, Err, Result, refl, arith, length-append, length-take}
use Rattle.std.specs.Fmt.{digits, digits_onto, digit_glyph}
use Rattle.std.specs.declared.option.Option as rust
use Rattle.answers.specs.Answers.{declares, states, says, gives, lists}
use Rattle.answers.specs.Refusals as refusals
use Rattle.answers.specs.declared.refusal.Refusal.{Refusal}
use Rattle.answers.specs.declared.refusal.Refusal.TheVariants.{Undeclared, LongTerm, NoAttribute, NoSuchValue, ShortTrail, ApartsFull, ValueClash, LeafClash, ApartClash, VariablesFull, NodesFull, ShortBuffer}
use Rattle.notation.specs.Notation.{written_path, written_term}
use Rattle.notation.specs.Reads as reads
use Rattle.notation.specs.declared.malformed.Malformed.{Malformed}
use Rattle.notation.specs.declared.malformed.Malformed.TheVariants.{TooLong, Unfit}
use Rattle.printing.specs.Texts.{line_end, spaced, term, named, malformed_named, refused_line, refusal_text, malformed_text, variable_text, accepted_text, sameness_text, found_text, hexadecimal, answered_text, answer_text}
use Rattle.printing.proofs.Hex.{hexadecimal_fits}

length_spelled : (k base : ℕ) (upper : Bool) (n : ℕ) (acc : List ℕ) → length (digits_onto k base upper n acc) ≤ k + length acc
length_spelled zero base upper n acc = omega arith
length_spelled (suc k) base upper n acc =
    let digit : ℕ = digit_glyph upper (n % base) in
    let more = length_spelled k base upper (n / base) (digit ∷ acc) in
    elim (eqb (n / base) 0) as (λ b. length (cond b (digit ∷ acc) (digits_onto k base upper (n / base) (digit ∷ acc))) ≤ suc k + length acc)
    [ true ↦ omega arith | false ↦ omega arith ]

length_decimal : (n : ℕ) → length (decimal n) ≤ 64
unfolding digits
length_decimal n = omega (arith, length_spelled 64 10 false n [])

length_path : (path : List ℕ) → length (written_path path) ≤ 65 * length path
length_path [] = omega arith
length_path (a ∷ path) = omega (arith, length-append (decimal a) (written_path path), length_decimal a, length_path path)

length_trail : (var count : ℕ) (trail : List ℕ) → length trail ≤ 272 → length (written_term (term var (take count trail))) ≤ 17744
unfolding written_term
length_trail var count trail l =
    omega (
      arith,
      length-append (decimal var) (written_path (take count trail)),
      length_decimal var,
      length_path (take count trail),
      length-take count trail,
    )

length_named : (trail : List ℕ) → length trail ≤ 272 → (r : Refusal) → length (named trail r) ≤ 17745
length_named trail l (Undeclared side) = omega (arith, length_decimal (refusals.side_number side))
length_named trail l (LongTerm side) = omega (arith, length_decimal (refusals.side_number side))
length_named trail l (NoAttribute side position) =
    omega (arith, length-append (spaced (decimal (refusals.side_number side))) (spaced (decimal position)), length_decimal (refusals.side_number side), length_decimal position)
length_named trail l NoSuchValue = omega arith
length_named trail l ShortTrail = omega arith
length_named trail l ApartsFull = omega arith
length_named trail l (ValueClash var count) = omega (arith, length_trail var count trail l)
length_named trail l (LeafClash var count) = omega (arith, length_trail var count trail l)
length_named trail l (ApartClash place) = omega (arith, length_decimal place)
length_named trail l VariablesFull = omega arith
length_named trail l NodesFull = omega arith
length_named trail l (ShortBuffer size) = omega (arith, length_decimal size)

length_malformed : (why : Malformed) → length (malformed_named why) ≤ 65
length_malformed TooLong = omega arith
length_malformed (Unfit n) = omega (arith, length_decimal n)

module _ (number : ℕ) (names : List ℕ) where
  pub refused_whole : codes "refused" ++ spaced (decimal number) ++ names ++ line_end ≡ refused_line number names
  unfolding refused_line
  refused_whole = refl

  pub length_refused : length (refused_line number names) ≡ 9 + length (decimal number) + length names
  unfolding refused_line
  length_refused =
      let start : List ℕ = codes "refused" ++ spaced (decimal number) in omega (arith, length-append (start ++ names) line_end, length-append start names)

  refused_fits : length names ≤ 17745 → length (refused_line number names) ≤ 54877
  refused_fits l = omega (arith, length_refused, length_decimal number)

pub refusal_fits : (trail : List ℕ) → length trail ≤ 272 → (r : Refusal) → length (refusal_text trail r) ≤ 54877
refusal_fits trail l r = refused_fits (refusals.number r) (named trail r) (length_named trail l r)

pub malformed_fits : (why : Malformed) → length (malformed_text why) ≤ 54877
malformed_fits why = refused_fits (reads.number why) (malformed_named why) (omega (arith, length_malformed why))

answered_fits : {T : Type 0} (text : T → List ℕ) (trail : List ℕ) (r : Result T Refusal) → length trail ≤ 272 → ((x : T) → length (text x) ≤ 54877) → length (answered_text text trail r) ≤ 54877
answered_fits text trail (Ok x) l fits = fits x
answered_fits text trail (Err r) l fits = refusal_fits trail l r

variable_fits : (n : ℕ) → length (variable_text n) ≤ 54877
variable_fits n = omega (arith, length-append (codes "ok" ++ spaced (decimal n)) line_end, length-append (codes "ok") (spaced (decimal n)), length_decimal n)

sameness_fits : (b : Bool) → length (sameness_text b) ≤ 54877
sameness_fits true = omega arith
sameness_fits false = omega arith

found_fits : (found : rust.Option ℕ) → length (found_text found) ≤ 54877
found_fits (Some v) = omega (arith, length-append (decimal v) line_end, length_decimal v)
found_fits None = omega arith

-- a buffer of 54,877 bytes has room for whatever is printed
pub declares_fits : (r : Result ℕ Refusal) → length (answer_text (declares r)) ≤ 54877
declares_fits r = answered_fits variable_text [] r (omega arith) variable_fits

pub states_fits : (r : Result (Unit {0}) Refusal) (trail : List ℕ) → length trail ≤ 272 → length (answer_text (states r trail)) ≤ 54877
states_fits r trail l = answered_fits accepted_text trail r l (λ u. omega arith)

pub says_fits : (r : Result Bool Refusal) → length (answer_text (says r)) ≤ 54877
says_fits r = answered_fits sameness_text [] r (omega arith) sameness_fits

pub gives_fits : (r : Result (rust.Option ℕ) Refusal) → length (answer_text (gives r)) ≤ 54877
gives_fits r = answered_fits found_text [] r (omega arith) found_fits

pub lists_fits : (r : Result ℕ Refusal) (listing : List ℕ) → length listing ≤ 27016 → length (answer_text (lists r listing)) ≤ 54877
lists_fits r listing l =
    answered_fits (λ n. hexadecimal (take n listing)) [] r (omega arith)
    (λ n. hexadecimal_fits (take n listing) (omega (arith, length-take n listing)))
