-- How far a line was read: what a good beginning of a line says so far.
use Rattle.std.specs.Prelude.{◌≡◌, ℕ, ◌+◌, ◌*◌, ◌^◌, ◌<◌, ◌≤◌, List, [], ◌∷◌, ◌++◌, Some, None, decimal, Option}
use Rattle.features.specs.Terms.{Term, only, ◌▸◌}
use Rattle.notation.specs.Notation.{Command, equals, apart, same, value, space, point, written_term, Sized}
use Rattle.notation.specs.Classes.{letter, relation_letter}
use Rattle.notation.specs.declared.class.Relation.{Relation}
use Rattle.notation.specs.declared.class.Call.{Call}
use Rattle.notation.specs.declared.state.Place.{Place}

-- nothing; a letter; within a term, of which the part before the last point stands apart; within a value
pub data Reading : Type 0 where
  start : Reading
  named : Call → Reading
  within_term : Place → Option Term → Option ℕ → Reading
  within_value : Term → Option ℕ → Reading

abbrev pub stem_text : Option Term → List ℕ
stem_text None = []
stem_text (Some t) = written_term t ++ (point ∷ [])

abbrev pub number_text : Option ℕ → List ℕ
number_text None = []
number_text (Some n) = decimal n

abbrev pub place_text : Place → List ℕ
place_text Place.Value = 119 ∷ space ∷ []
place_text Place.Is = 107 ∷ space ∷ []
place_text (Place.Left r) = relation_letter r ∷ space ∷ []
place_text (Place.Right r p) = relation_letter r ∷ space ∷ (written_term p ++ (space ∷ []))

-- what was read
abbrev pub text : Reading → List ℕ
text start = []
text (named c) = letter c ∷ []
text (within_term place stem n) = place_text place ++ (stem_text stem ++ number_text n)
text (within_value p n) = 107 ∷ space ∷ (written_term p ++ (space ∷ number_text n))

abbrev pub SizedStem : Option Term → Type 0
SizedStem None = Unit {0}
SizedStem (Some t) = Sized t

abbrev pub Below : ℕ → Option ℕ → Type 0
Below limit None = Unit {0}
Below limit (Some n) = n < limit

abbrev pub SizedPlace : Place → Type 0
SizedPlace Place.Value = Unit {0}
SizedPlace Place.Is = Unit {0}
SizedPlace (Place.Left r) = Unit {0}
SizedPlace (Place.Right r p) = Sized p

-- the numbers are within their limits
abbrev pub Ranged : Reading → Type 0
Ranged start = Unit {0}
Ranged (named c) = Unit {0}
Ranged (within_term place stem n) = SizedPlace place × SizedStem stem × Below (2 ^ 16) n
Ranged (within_value p n) = Sized p × Below (2 ^ 64) n

-- the term of which the number is the last
abbrev pub closed : Option Term → ℕ → Term
closed None n = only n
closed (Some t) n = t ▸ n

abbrev pub related : Relation → Term → Term → Command
related Relation.Equals p q = equals p q
related Relation.Apart p q = apart p q
related Relation.Same p q = same p q

-- the command of a line that ends after a term
abbrev pub ended : Place → Term → Option Command
ended Place.Value t = Some (value t)
ended Place.Is t = None
ended (Place.Left r) t = None
ended (Place.Right r p) t = Some (related r p t)

-- one byte more was read
abbrev pub Follows : Reading → ℕ → Reading → Type 0
Follows s b s' = (text s' ≡ text s ++ (b ∷ [])) × Ranged s'

-- a number may have one digit more: none after a zero, and none that leads past the greatest
abbrev pub Admits : ℕ → Option ℕ → ℕ → Type 0
Admits greatest None d = Unit {0}
Admits greatest (Some n) d = (0 < n) × (n * 10 + d ≤ greatest)

abbrev pub appended : Option ℕ → ℕ → ℕ
appended None d = d
appended (Some n) d = n * 10 + d
