-- What a table holds after it was made a copy of another.
use Rattle.std.proofs.Common.{◌≡◌, ℕ, ◌≤◌, List, get_or, vec_items, vec_len, vec_capacity, sym, ap, ◌∙◌, arith}
use Rattle.tables.specs.declared.node.Node.{Node}
use Rattle.tables.specs.declared.table.Table.{Table}
use Rattle.tables.specs.Copying.{Copied}
use Rattle.tables.specs.Views.{row, edge_of, Sound}

pub copied : (t u : Table) → Sound t → 272 ≤ vec_capacity u.rows → 64 ≤ vec_capacity u.roots → vec_len u.rows ≡ vec_len t.rows → vec_len u.roots ≡ vec_len t.roots
    → vec_items u.rows ≡ vec_items t.rows → vec_items u.roots ≡ vec_items t.roots → Copied t u
copied t u s row_room root_room used vars rows roots = record {
  used = used;
  rows = λ n l. ap (λ (xs : List Node). row xs n) rows;
  vars = vars;
  roots = λ x l. ap (λ (xs : List ℕ). get_or xs x 0) roots;
  sound = record {
    rows = omega (arith, s.rows);
    row_room = row_room;
    roots = omega (arith, s.roots);
    root_room = root_room;
    edges_inside = λ n a k l e.
        let i = s.edges_inside n a k (omega arith) (sym (ap (λ (xs : List Node). edge_of (row xs n) a) rows) ∙ e) in omega arith;
    roots_inside = λ x l.
        let i = s.roots_inside x (omega arith) in let e = ap (λ (xs : List ℕ). get_or xs x 0) roots in omega arith;
  };
}
