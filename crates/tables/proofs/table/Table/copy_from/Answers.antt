use Rattle.std.proofs.Common.{◌++◌, List, ap, ◌∙◌, arith}
use Rattle.tables.proofs.Copies.{copied}
use Rattle.tables.proofs.table.Table.copy_from.Goals as goal

pub returns : goal.returns
returns c =
    let rows = c.extend_from_slice.ensures in
    let roots = c.extend_from_slice-2.ensures in
    copied c.args.other.now _ c.requires.others
    (omega (arith, rows.capacity, c.clear.ensures.capacity, c.requires.own.row_room))
    (omega (arith, roots.capacity, c.clear-2.ensures.capacity, c.requires.own.root_room))
    (let e = rw c.unwrap.ensures at rows.len in omega (arith, c.clear.ensures.len, c.deref.ensures.len))
    (let e = rw c.unwrap-2.ensures at roots.len in omega (arith, c.clear-2.ensures.len, c.deref-2.ensures.len))
    (rw c.unwrap.ensures at rows.items ∙ ap (λ (xs : List _). xs ++ c.deref.result.now) c.clear.ensures.items ∙ c.deref.ensures.value)
    (rw c.unwrap-2.ensures at roots.items ∙ ap (λ (xs : List _). xs ++ c.deref-2.result.now) c.clear-2.ensures.items ∙ c.deref-2.ensures.value)
