-- The next element of what is left of a list.
use Rattle.std.proofs.Common.{◌≡◌, ℕ, ◌+◌, ◌<◌, List, ◌∷◌, length, get_or, drop, ap, arith, length-drop}
use Rattle.std.proofs.lemmas.List.{drop_more}

pub record NextAt (xs : List ℕ) (i x : ℕ) (rest : List ℕ) : Type 0 where
  pub inside : i < length xs
  pub here : get_or xs i 0 ≡ x
  pub others : rest ≡ drop (i + 1) xs

pub next_at : (xs : List ℕ) (i x : ℕ) (rest : List ℕ) → drop i xs ≡ x ∷ rest → NextAt xs i x rest
next_at xs i x rest e =
    let inside : i < length xs = omega (arith, ap length e, length-drop i xs) in
    let more = drop_more xs i 0 inside in
    record { inside = inside; here = cc; others = cc }
