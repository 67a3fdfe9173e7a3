-- A table in which an attribute was led to a node in use.
use Rattle.std.proofs.Common.{◌≡◌, ℕ, ◌<◌, ◌⊎◌, List, get_or, set, vec_items, vec_len, sym, ap, ◌∙◌, inl, inr, arith, get_or-set_other, get_or-set_same}
use mathlib.Core.Option.{some}
use Rattle.std.proofs.lemmas.Bool.{cases_eq}
use Rattle.std.specs.Vec.{with_item}
use Rattle.tables.specs.declared.node.Node.{Node}
use Rattle.tables.specs.declared.table.Table.{Table}
use Rattle.tables.specs.Views.{row, blank, edge_of, Sound}
use Rattle.tables.proofs.Extended.{read_row}
use Rattle.tables.proofs.Walking.{same_target}

module _ (t : Table) (s : Sound t) (n a k : ℕ) (l : n < vec_len t.rows) (m : k < vec_len t.rows) (x w : Node) (read : x ≡ get_or (vec_items t.rows) n x)
    (leads : edge_of w a ≡ some k) (others : (b : ℕ) → (b ≡ a → ⊥) → edge_of w b ≡ edge_of x b) where
  abbrev rows_after : List Node
  rows_after = set (vec_items t.rows) n w

  row_led : (b : ℕ) → edge_of (row rows_after n) b ≡ edge_of w b
  row_led b =
      let long = t.rows.ok.0 in
      ap (λ (r : Node). edge_of r b) (get_or-set_same (vec_items t.rows) n w blank (omega arith))

  edges_inside : (i b j : ℕ) → i < vec_len t.rows → edge_of (row rows_after i) b ≡ some j → (i ≡ n) ⊎ (i ≡ n → ⊥) → (b ≡ a) ⊎ (b ≡ a → ⊥) → j < vec_len t.rows
  edges_inside i b j h e (inl p) (inl q) =
      let f = ap (λ (c : ℕ). edge_of (row rows_after c) b) p ∙ row_led b ∙ ap (edge_of w) q ∙ leads in
      let z = same_target (edge_of (row rows_after i) b) j k e f in omega arith
  edges_inside i b j h e (inl p) (inr q) =
      let before = ap (λ (r : Node). edge_of r b) (read_row t n l x read) in
      s.edges_inside n b j l (sym before ∙ sym (others b q) ∙ sym (row_led b) ∙ ap (λ (c : ℕ). edge_of (row rows_after c) b) (sym p) ∙ e)
  edges_inside i b j h e (inr p) c = s.edges_inside i b j h (sym (ap (λ (r : Node). edge_of r b) (get_or-set_other (vec_items t.rows) n i w blank p)) ∙ e)

  pub linked_sound : Sound (record { rows = with_item t.rows n w; roots = t.roots })
  linked_sound = record {
    rows = s.rows;
    row_room = s.row_room;
    roots = s.roots;
    root_room = s.root_room;
    edges_inside = λ i b j h e. edges_inside i b j h e (cases_eq i n) (cases_eq b a);
    roots_inside = s.roots_inside;
  }
