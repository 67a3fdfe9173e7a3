-- The words of a text: what white space parts.
use Rattle.std.specs.Prelude.{◌≡◌, ℕ, ◌<◌, List, [], ◌∷◌, ◌++◌, length}
use Rattle.std.specs.Char.{is_whitespace, is_not_whitespace}
use Rattle.std.specs.Str.{NoCharPasses, EmptyOrStartsWithPassing}

-- a word comes first, maybe after white space, and this rest follows, which is empty or begins with white space
abbrev pub FirstWord : List ℕ → List ℕ → List ℕ → Type 0
FirstWord text word rest =
    (gap : List ℕ) × (text ≡ gap ++ (word ++ rest)) × (0 < length word) × NoCharPasses is_not_whitespace gap
    × NoCharPasses is_whitespace word × ((more : List ℕ) × EmptyOrStartsWithPassing is_whitespace rest more)

-- these words come first, and this rest follows
abbrev pub FirstWords : List ℕ → List (List ℕ) → List ℕ → Type 0
FirstWords text [] rest = text ≡ rest
FirstWords text (word ∷ words) rest = (between : List ℕ) × FirstWord text word between × FirstWords between words rest

-- these are all words of the text
abbrev pub AreWords : List ℕ → List (List ℕ) → Type 0
AreWords text words = (rest : List ℕ) × FirstWords text words rest × NoCharPasses is_not_whitespace rest
