-- A table whose rows and variables change in place stays sound.
use Rattle.std.proofs.Common.{◌≡◌, ℕ, ◌<◌, ◌⊎◌, get_or, vec_items, vec_len, vec_capacity, sym, refl, ap, ◌∙◌, subst, inl, inr, arith}
use mathlib.Core.Option.{Option, some, none, map, map-eq-some_iff, or_else}
use Rattle.std.proofs.lemmas.Bool.{cases_eq}
use Rattle.tables.specs.declared.table.Table.{Table}
use Rattle.tables.specs.Views.{graph, Sound}
use Rattle.joining.specs.Uniting.{Takes}
use Rattle.joining.specs.declared.workspace.Workspace.{Workspace}
use Rattle.joining.specs.Workspaces.{rep}

-- t' has as much as t
module _ (t t' : Table) (sound : Sound t) (used : vec_len t'.rows ≡ vec_len t.rows) (room : vec_capacity t'.rows ≡ vec_capacity t.rows) where
  -- its variables lead to rows, and its attributes do
  changed_sound : vec_len t'.roots ≡ vec_len t.roots → vec_capacity t'.roots ≡ vec_capacity t.roots
      → ((n a k : ℕ) → n < vec_len t.rows → (graph t').edge n a ≡ some k → k < vec_len t.rows)
      → ((x : ℕ) → x < vec_len t.roots → (graph t').root x < vec_len t.rows) → Sound t'
  changed_sound vars root_room edges roots = record {
    rows = omega (arith, sound.rows);
    row_room = omega (arith, sound.row_room);
    roots = omega (arith, sound.roots);
    root_room = omega (arith, sound.root_room);
    edges_inside = λ n a k h e. let i = edges n a k (omega arith) e in omega arith;
    roots_inside = λ x h. let i = roots x (omega arith) in omega arith;
  }

  -- its variables lead where they led
  rooted_sound : t'.roots ≡ t.roots → ((n a k : ℕ) → n < vec_len t.rows → (graph t').edge n a ≡ some k → k < vec_len t.rows) → Sound t'
  rooted_sound roots edges =
      changed_sound (ap vec_len roots) (ap vec_capacity roots) edges
      (λ x h. subst (λ (z : ℕ). z < vec_len t.rows) (sym (ap (λ z. get_or (vec_items z) x 0) roots)) (sound.roots_inside x h))

  -- values alone have changed
  pub valued_sound : t'.roots ≡ t.roots → ((n a : ℕ) → (graph t').edge n a ≡ (graph t).edge n a) → Sound t'
  valued_sound roots same = rooted_sound roots (λ n a k h e. sound.edges_inside n a k h (sym (same n a) ∙ e))

  -- one row has taken the attributes of another
  pub takes_sound : (W W' : ℕ → ℕ → Type 0) (to from : ℕ) → to < vec_len t.rows → from < vec_len t.rows → t'.roots ≡ t.roots
      → Takes (graph t).edge W to from (graph t').edge W' → Sound t'
  unfolding or_else
  takes_sound W W' to from l k roots takes = rooted_sound roots (λ n a j h e. inside n a j h e (cases_eq n to))
    where
      of_two : (a j : ℕ) (o : Option ℕ) → (graph t).edge to a ≡ o → or_else o ((graph t).edge from a) ≡ some j → j < vec_len t.rows
      of_two a j (some i) e f = sound.edges_inside to a j l (e ∙ f)
      of_two a j none e f = sound.edges_inside from a j k f

      inside : (n a j : ℕ) → n < vec_len t.rows → (graph t').edge n a ≡ some j → (n ≡ to) ⊎ (n ≡ to → ⊥) → j < vec_len t.rows
      inside n a j h e (inl d) =
          of_two a j ((graph t).edge to a) refl (sym (takes.merged a) ∙ subst (λ (z : ℕ). (graph t').edge z a ≡ some j) d e)
      inside n a j h e (inr d) = sound.edges_inside n a j h (sym (takes.others n a d) ∙ e)

-- every target has become its representative
pub resolved_sound : (w : Workspace) (t' : Table) → Sound w.table → ((x : ℕ) → x < vec_len w.table.rows → rep w x < vec_len w.table.rows)
    → vec_len t'.rows ≡ vec_len w.table.rows → vec_capacity t'.rows ≡ vec_capacity w.table.rows → vec_len t'.roots ≡ vec_len w.table.roots → vec_capacity t'.roots ≡ vec_capacity w.table.roots
    → ((n a : ℕ) → n < vec_len w.table.rows → (graph t').edge n a ≡ map (rep w) ((graph w.table).edge n a))
    → ((x : ℕ) → x < vec_len w.table.roots → (graph t').root x ≡ rep w ((graph w.table).root x)) → Sound t'
resolved_sound w t' sound inside used room vars root_room edges roots =
    changed_sound w.table t' sound used room vars root_room
    (λ n a k l e.
    let j = (map-eq-some_iff (rep w) ((graph w.table).edge n a)).0 (sym (edges n a l) ∙ e) in
    let i = inside j.0 (sound.edges_inside n a j.0 l j.1) in omega (arith, i, j.2))
    (λ x l. let i = inside ((graph w.table).root x) (sound.roots_inside x l) in omega (arith, i, roots x l))
