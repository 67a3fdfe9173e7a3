-- Rows with targets by their numbers.
use Rattle.std.proofs.Common.{◌≡◌, ℕ, ◌+◌, ◌<◌, ◌⊎◌, [], ◌∷◌, ◌++◌, length, vec_items, vec_len, sym, ap, ◌∙◌, subst, inl, inr, arith}
use mathlib.Core.Option.{some, map}
use Rattle.std.proofs.lemmas.Bool.{cases_eq}
use Rattle.tables.specs.declared.node.Node.{Node}
use Rattle.tables.specs.declared.table.Table.{Table}
use Rattle.tables.specs.Views.{row as row_of, blank, edge_of, graph, Sound}
use Rattle.tables.proofs.Extended.{kept_before, added_last}
use Rattle.numbering.specs.declared.numbers.Numbers.{Numbers}
use Rattle.numbering.specs.Given.{ord, num}
use Rattle.numbering.specs.Frontier.{Numbered}
use Rattle.numbering.specs.Arranged.{Moved}

-- one row more
module _ (t : Table) (n : Numbers) (sound : Sound t) (of : Numbered (graph t) n) (k : ℕ) (lt : k < vec_len n.listed) where
  pub row_inside : ord n k < vec_len t.rows
  row_inside = of.numbering.inside k lt

  module _ (r : Node) (read : r ≡ row_of (vec_items t.rows) (ord n k)) where
    pub targets_inside : (a y : ℕ) → edge_of r a ≡ some y → y < 272
    targets_inside a y e = omega (arith, sound.edges_inside (ord n k) a y row_inside (ap (λ (z : Node). edge_of z a) (sym read) ∙ e), sound.rows)

    pub moved_more : (into into' : Table) (moved : Node) → moved.value ≡ r.value → ((a : ℕ) → edge_of moved a ≡ map (num n) (edge_of r a))
        → vec_len into.rows ≡ k → vec_items into'.rows ≡ vec_items into.rows ++ (moved ∷ [])
        → ((j : ℕ) → j < k → Moved (graph t) n into j) → (j : ℕ) → j < k + 1 → Moved (graph t) n into' j
    moved_more into into' moved value edges used after before j less = pick (cases_eq j k)
      where
        long : length (vec_items into.rows) ≡ k
        long = sym into.rows.ok.0 ∙ used

        here : row_of (vec_items into'.rows) k ≡ moved
        here = added_last (vec_items into.rows) (vec_items into'.rows) k moved blank long after

        pick : (j ≡ k) ⊎ (j ≡ k → ⊥) → Moved (graph t) n into' j
        pick (inl e) = subst (λ (z : ℕ). Moved (graph t) n into' z) (sym e) (record {
          value = ap (λ (z : Node). z.value) here ∙ value ∙ ap (λ (z : Node). z.value) read;
          edges = λ a. ap (λ (z : Node). edge_of z a) here ∙ edges a ∙ ap (λ (z : Node). map (num n) (edge_of z a)) read;
        })
        pick (inr ne) =
            let l : j < k = omega arith in
            let m = before j l in
            let kept = kept_before (vec_items into.rows) (vec_items into'.rows) k moved blank long after j l in
            record { value = ap (λ (z : Node). z.value) kept ∙ m.value; edges = λ a. ap (λ (z : Node). edge_of z a) kept ∙ m.edges a }
