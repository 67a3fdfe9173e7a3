use Rattle.std.proofs.Common.{◌≡◌, ◌++◌, ◌∷◌, [], vec_items, vec_len, refl}
use Rattle.tables.specs.declared.table.Table.{Table}
use Rattle.tables.proofs.Extended.{new_variable, variable_sound}
use Rattle.tables.proofs.table.Table.add_variable.Goals as goal

pub returns : goal.returns
returns c =
    let t = c.args.self.now in
    let u : Table = record { rows = c.push_reserved-2.new.self; roots = c.push_reserved.new.self } in
    let rows = c.push_reserved-2.ensures in
    let roots = c.push_reserved.ensures in
    let on : vec_items c.push_reserved.new.self ≡ vec_items t.roots ++ vec_len t.rows ∷ [] = rw c.len.ensures at roots.items in
    record {
      new = new_variable t c.requires.sound c.bare.result c.requires.row_left (vec_items c.push_reserved-2.new.self) rows.items c.args.top c.bare.ensures.value
          c.bare.ensures.bare c.requires.root_left u refl rows.len rows.capacity on roots.len roots.capacity;
      variable = c.len-variable.ensures;
      sound = variable_sound t c.requires.sound c.bare.result c.requires.row_left (vec_items c.push_reserved-2.new.self) rows.items c.args.top c.bare.ensures.value
          c.bare.ensures.bare c.requires.root_left u refl rows.len rows.capacity on roots.len roots.capacity;
    }
