use Rattle.std.proofs.Common.{◌≡◌, ℕ, ◌+◌, List, [], ◌∷◌, length, take, get_or, count_by, cond, refl, sym, ◌∙◌, ap, arith, zero, suc}
use Rattle.std.proofs.lemmas.List.Sums.{sum_by-cons}
use Rattle.sentences.specs.declared.outline.Node.{Node}
use Rattle.sentences.proofs.outlining.number.Goals as goal

-- a count goes by which elements are shared alone
same_count : (xs ys : List Node) (n : ℕ) → length ys ≡ length xs → ((k : ℕ) (d : Node) → (get_or ys k d).shared ≡ (get_or xs k d).shared)
    → count_by (λ m. m.shared) (take n ys) ≡ count_by (λ m. m.shared) (take n xs)
same_count [] [] n len same = refl
same_count [] (y ∷ ys) n len same = cc
same_count (x ∷ xs) [] n len same = cc
same_count (x ∷ xs) (y ∷ ys) zero len same = refl
same_count (x ∷ xs) (y ∷ ys) (suc n) len same =
    let one : Node → ℕ = λ m. cond m.shared 1 0 in
    sum_by-cons one y (take n ys)
    ∙ ap (λ b. cond b 1 0 + count_by (λ m. m.shared) (take n ys)) (same 0 x)
    ∙ ap (λ more. one x + more) (same_count xs ys n (omega (arith, len)) (λ k d. same (suc k) d))
    ∙ sym (sum_by-cons one x (take n xs))

pub returns : goal.returns
returns c = λ i within d.
    let labels = c.loop-node.invariant.3 i d (omega arith) in
    let same = c.loop-node.invariant.2 i d in
    let counts = same_count c.args.nodes.now c.loop-node.nodes (i + 1) c.loop-node.auto.nodes c.loop-node.invariant.2 in
    cc
