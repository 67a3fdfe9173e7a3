-- That a table is sound can be known in one way only, so that it can stand beside a table as a fact.
use mathlib.Core.Logic.{∥∥₁_elim}
use native.Mathlib.Bridge.{le_prop}
use Rattle.tables.specs.declared.table.Table.{Table}
use Rattle.tables.specs.Views.{Sound}

sound_prop : (t : Table) → IsProp (Sound t)
sound_prop t x y = λ i.
    record {
      rows = le_prop x.rows y.rows i;
      row_room = le_prop x.row_room y.row_room i;
      roots = le_prop x.roots y.roots i;
      root_room = le_prop x.root_room y.root_room i;
      edges_inside = λ n a k h e. le_prop (x.edges_inside n a k h e) (y.edges_inside n a k h e) i;
      roots_inside = λ v h. le_prop (x.roots_inside v h) (y.roots_inside v h) i;
    }

pub sound_known : {t : Table} → ∥ Sound t ∥₁ → Sound t
sound_known {t} s = ∥∥₁_elim s (sound_prop t) (λ x. x)
