-- A list that is kept in an array: its entries, and zeros behind them.
use Rattle.std.specs.Prelude.{◌≡◌, ℕ, ◌≤◌, ◌-◌, List, ◌++◌, length, take, drop, replicate}
use Rattle.std.proofs.Common.{sym, ap, ◌∙◌}
use Rattle.std.proofs.lemmas.List.{length-take-le, take-append-drop}

pub record Kept (count most : ℕ) (xs : List ℕ) : Type 0 where
  pub whole : length xs ≡ most
  pub few : count ≤ length xs
  pub blank : drop count xs ≡ replicate (most - count) 0

abbrev pub padded : ℕ → List ℕ → List ℕ
padded most xs = xs ++ replicate (most - length xs) 0

pub count_kept : (n most : ℕ) (xs : List ℕ) → Kept n most xs → length (take n xs) ≡ n
count_kept n most xs k = length-take-le n xs k.few

pub entries_kept : (n most : ℕ) (xs : List ℕ) → Kept n most xs → padded most (take n xs) ≡ xs
entries_kept n most xs k =
    ap (λ m. take n xs ++ replicate (most - m) 0) (length-take-le n xs k.few)
    ∙ ap (λ ys. take n xs ++ ys) (sym k.blank)
    ∙ take-append-drop n xs
