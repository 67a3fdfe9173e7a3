use Rattle.std.proofs.Common.{◌≡◌, ℕ, List, length, get_or, vec_len, sym, refl, ap, ◌∙◌, ap₂, arith, rules}
use mathlib.Core.Option.{map}
use Rattle.std.specs.Vec.{with_items}
use Rattle.std.proofs.lemmas.List.{with_items_is}
use Rattle.tables.specs.declared.node.Node.{Node}
use Rattle.tables.specs.declared.table.Table.{Table}
use Rattle.tables.specs.Views.{edge_of, row}
use Rattle.tables.proofs.Known.{sound_known}
use Rattle.joining.proofs.Changing.{resolved_sound}
use Rattle.joining.proofs.workspace.Workspace.resolve.Goals as goal

pub resolve_rows-requires : goal.resolve_rows-requires
resolve_rows-requires c = λ n a k h e.
    let s = c.args.self.now in
    let sound = sound_known s.sound in
    let i = sound.edges_inside n a k (omega (arith, c.deref_mut.ensures.len)) (ap (λ (z : List Node). edge_of (row z n) a) (sym c.deref_mut.ensures.value) ∙ e) in
    omega (arith, sound.rows, s.classes, c.deref.ensures.len)

pub resolve_roots-requires : goal.resolve_roots-requires
resolve_roots-requires c = λ x h.
    let s = c.args.self.now in
    let sound = sound_known s.sound in
    let i = sound.roots_inside x (omega (arith, c.deref_mut-2.ensures.len)) in
    omega (arith, ap (λ (z : List ℕ). get_or z x 0) c.deref_mut-2.ensures.value, sound.rows, s.classes, c.deref-2.ensures.len)

pub invariant_of-self : goal.invariant_of-self
invariant_of-self c =
    let w = c.args.self.now in
    let rows = c.resolve_rows.new.rows in
    let roots = c.resolve_roots.new.roots in
    let rows_long : length rows ≡ vec_len w.table.rows = search rules in
    let roots_long : length roots ≡ vec_len w.table.roots = search rules in
    let rows_are = with_items_is w.table.rows rows rows_long in
    let roots_are = with_items_is w.table.roots roots roots_long in
    let t : Table = record { rows = with_items w.table.rows rows; roots = with_items w.table.roots roots } in
    record {
      sound = ∣
          resolved_sound w t (sound_known w.sound) c.requires refl refl refl refl
          (λ n a l.
          ap (λ (z : List Node). edge_of (row z n) a) rows_are ∙ c.resolve_rows.ensures.edges n a (omega (arith, c.deref_mut.ensures.len))
          ∙ ap₂ (λ (cs : List ℕ) (rs : List Node). map (λ x. get_or cs x 0) (edge_of (row rs n) a)) c.deref.ensures.value c.deref_mut.ensures.value)
          (λ x l.
          ap (λ (z : List ℕ). get_or z x 0) roots_are ∙ c.resolve_roots.ensures x (omega (arith, c.deref_mut-2.ensures.len))
          ∙ ap₂ (λ (cs rs : List ℕ). get_or cs (get_or rs x 0) 0) c.deref-2.ensures.value c.deref_mut-2.ensures.value) ∣₁;
      classes = w.classes;
      voids = w.voids;
    }
