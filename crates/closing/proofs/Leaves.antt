-- Where a leaf with an attribute stands in a closed graph.
use Rattle.std.proofs.Common.{◌≡◌, ℕ, ◌^◌, ◌<◌, Bool, true, false, cond, get_or, vec_items, vec_len, sym, refl, ap, ◌∙◌, arith}
use mathlib.Core.Option.{Option, some, none}
use lib.Count.{count_trailing_zeros}
use Rattle.std.proofs.lemmas.Bool.{both_ways}
use Rattle.kinds.specs.Masks.{has}
use Rattle.kinds.specs.Meaning.{Meaning}
use Rattle.kinds.specs.BitSets.{has_none, lowest_set}
use Rattle.growth.specs.Joins.{LeafAt}
use Rattle.tables.specs.declared.node.Node.{Node}
use Rattle.tables.specs.Views.{row, edge_of}
use Rattle.tables.proofs.Leading.{shown_edge, not_present}
use Rattle.tables.proofs.LowestBits.{trailing_below}
use Rattle.closing.specs.declared.closer.Closer.{Closer}
use Rattle.closing.specs.Closings.{Arranged, closed_graph, closed_state}

stood : (b : Bool) (v : ℕ) → (◌≡◌ {A = Option ℕ} (cond b none (some v)) none → ⊥) → ◌≡◌ {A = Option ℕ} (cond b none (some v)) (some v)
stood true v h = absurd (h refl)
stood false v h = refl

-- a row with a bit has the attribute of the lowest one, a row without any has none
some_attribute : (r : Node) → (r.present ≡ 0 → ⊥) → r.present < 2 ^ 32
    → edge_of r (count_trailing_zeros 32 r.present) ≡ some (get_or r.targets (count_trailing_zeros 32 r.present) 0)
some_attribute r positive fits =
    let below = trailing_below 32 r.present (omega (arith, positive)) fits in
    shown_edge r (count_trailing_zeros 32 r.present) below (lowest_set 32 r.present below)

no_attribute : (r : Node) → r.present ≡ 0 → (a : ℕ) → edge_of r a ≡ none
no_attribute r e a = not_present r a (ap (λ (x : ℕ). has x a) e ∙ has_none a)

-- the node with the number k, read from its row
module _ (m : Meaning) (s : Closer) (arranged : Arranged s) (valued : (k : ℕ) → k < vec_len s.numbers.listed → closed_state s k ≡ none → ⊥) (k : ℕ) (lt : k < vec_len s.next.rows) (node : Node) (read_row : node ≡ row (vec_items s.next.rows) k) where
  value_stands : closed_state s k ≡ some node.value
  value_stands =
      let nodes = arranged.same.nodes in
      let there = stood (get_or (vec_items s.work.void) _ false) ((closed_graph s).value k) (valued k (omega arith)) in
      there ∙ ap some (sym (ap (λ (r : Node). r.value) read_row ∙ arranged.same.values k lt))

  edge_read : (a : ℕ) → (closed_graph s).edge k a ≡ edge_of node a
  edge_read a = sym (ap (λ (r : Node). edge_of r a) read_row ∙ arranged.same.edges k a lt)

  -- it has both a leaf and an attribute
  pub leaf_there : (node.present ≡ 0 → ⊥) → node.present < 2 ^ 32 → m.leaf node.value ≡ true → LeafAt m (closed_graph s) (closed_state s) k
  leaf_there positive fits leaf =
      let a = count_trailing_zeros 32 node.present in
      (node.value, a, get_or node.targets a 0, value_stands, leaf, edge_read a ∙ some_attribute node positive fits)

  -- it has no attribute
  pub bare_there : node.present ≡ 0 → LeafAt m (closed_graph s) (closed_state s) k → ⊥
  bare_there e (v, a, j, stands, leaf, edge) =
      let gone = sym (no_attribute node e a) ∙ sym (edge_read a) ∙ edge in
      let z : ◌≡◌ {A = ℕ} 0 1 = cc in
      omega arith

  -- it has no leaf
  pub no_leaf_there : m.leaf node.value ≡ false → LeafAt m (closed_graph s) (closed_state s) k → ⊥
  no_leaf_there e (v, a, j, stands, leaf, edge) =
      let same = sym value_stands ∙ stands in
      let is : node.value ≡ v = cc in
      both_ways (m.leaf node.value) e (ap m.leaf is ∙ leaf)
