-- The words of a text, one after another.
use Rattle.std.proofs.Common.{ℕ, List, [], ◌∷◌, ◌++◌, refl, sym, subst}
use Rattle.manuals.specs.Words.{FirstWord, FirstWords}

-- one word more follows the first ones
pub FirstWords-more : (text : List ℕ) (words : List (List ℕ)) (between word rest : List ℕ)
    → FirstWords text words between → FirstWord between word rest → FirstWords text (words ++ word ∷ []) rest
FirstWords-more text [] between word rest same first =
    (rest, subst (λ (t : List ℕ). FirstWord t word rest) (sym same) first, refl)
FirstWords-more text (w ∷ words) between word rest (next, here, more) first =
    (next, here, FirstWords-more next words between word rest more first)
