-- The numbers that rows were given, and for which mention each.
use Rattle.std.specs.Prelude.{◌≡◌, ℕ, ◌<◌, List, [], ◌∷◌, ◌++◌, map, vec_items, vec_len, slice_index, slice_index_or, slice_set}
use Rattle.features.specs.Numbering.{Mention, by_variable, by_attribute}
use Rattle.numbering.specs.declared.mention.Mention.{Mention as Found}
use Rattle.numbering.specs.declared.mention.Mention.TheVariants.{Variable, Attribute}
use Rattle.numbering.specs.declared.numbers.Listed.{Listed}
use Rattle.numbering.specs.declared.numbers.Numbers.{Numbers}

abbrev pub meaning : Found → Mention
meaning (Variable x) = by_variable x
meaning (Attribute i a) = by_attribute i a

abbrev pub blank : Listed
blank = record { row = 0; mention = Variable 0 }

-- what is listed under a number
abbrev pub entry : Numbers → ℕ → Listed
entry n k = slice_index_or (vec_items n.listed) k blank

-- the row of a number
abbrev pub ord : Numbers → ℕ → ℕ
ord n k = (entry n k).row

-- the rows that have numbers, in the order of their numbers
abbrev pub numbered_rows : Numbers → List ℕ
numbered_rows n = map (λ l. l.row) (vec_items n.listed)

-- the number of a row
abbrev pub num : Numbers → ℕ → ℕ
num n x = slice_index (vec_items n.number) x

-- the mention for which a number was given
abbrev pub given : Numbers → ℕ → Mention
given n k = meaning (entry n k).mention

abbrev pub HasNumber : Numbers → ℕ → Type 0
HasNumber n x = (num n x < vec_len n.listed) × (ord n (num n x) ≡ x)

-- the row has the next number, for this mention
pub record Next (n n' : Numbers) (row : ℕ) (how : Found) : Type 0 where
  pub listed : vec_items n'.listed ≡ vec_items n.listed ++ (record { row = row; mention = how } ∷ [])
  pub number : vec_items n'.number ≡ slice_set (vec_items n.number) row (vec_len n.listed)
