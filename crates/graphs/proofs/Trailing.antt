-- The last eight bytes as three numbers.
use Rattle.std.proofs.Common.{◌≡◌, ℕ, ◌-◌, ◌≤◌, List, ◌++◌, length, take, drop, sym, ap, ◌∙◌, append_assoc, arith, length-drop, take_all, drop-drop, take-add}
use Rattle.features.specs.Listing.{little}
use Rattle.graphs.specs.Listings.{node_count, variable_count, table_place}

pub trailer_bytes : (bs : List ℕ) → 8 ≤ length bs
    → little 2 (node_count bs) ≡ take 2 (drop (length bs - 8) bs) → little 2 (variable_count bs) ≡ take 2 (drop (length bs - 6) bs) → little 4 (table_place bs) ≡ take 4 (drop (length bs - 4) bs)
    → drop (length bs - 8) bs ≡ little 2 (node_count bs) ++ little 2 (variable_count bs) ++ little 4 (table_place bs)
trailer_bytes bs long a b c =
    let p = length bs - 8 in
    let all : take 8 (drop p bs) ≡ drop p bs = take_all 8 (drop p bs) (simp length-drop (omega arith)) in
    let first = take-add 2 6 (drop p bs) in
    let second = take-add 2 4 (drop 2 (drop p bs)) in
    let two : drop 2 (drop p bs) ≡ drop (length bs - 6) bs = drop-drop 2 p bs ∙ ap (λ (z : ℕ). drop z bs) (omega arith) in
    let four : drop 2 (drop (length bs - 6) bs) ≡ drop (length bs - 4) bs = drop-drop 2 (length bs - 6) bs ∙ ap (λ (z : ℕ). drop z bs) (omega arith) in
    sym all ∙ first ∙ ap (λ (z : List ℕ). take 2 (drop p bs) ++ z) (second ∙ (λ i. take 2 (two i) ++ take 4 (drop 2 (two i))) ∙ ap (λ (z : List ℕ). take 2 (drop (length bs - 6) bs) ++ take 4 z) four)
    ∙ sym (append_assoc (take 2 (drop p bs)) (take 2 (drop (length bs - 6) bs)) (take 4 (drop (length bs - 4) bs)))
    ∙ (λ i. sym a i ++ sym b i ++ sym c i)
