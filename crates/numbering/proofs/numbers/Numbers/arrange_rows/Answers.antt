use Rattle.std.proofs.Common.{◌<◌, vec_len, arith}
use Rattle.tables.proofs.Extended.{read_row}
use Rattle.numbering.specs.Given.{ord}
use Rattle.numbering.proofs.Moving.{row_inside, targets_inside, moved_more}
use Rattle.numbering.proofs.numbers.Numbers.arrange_rows.Goals as goal

pub by_numbers-node-requires : goal.by_numbers-node-requires
by_numbers-node-requires c =
    let t = c.args.from.now in
    let n = c.args.self.now in
    let k = c.loop-listed.listed-index in
    let lt : k < vec_len n.listed = omega (arith, c.loop-listed-test.true, c.deref-listed-items.ensures.len) in
    let read = read_row t (ord n k) (row_inside t n c.requires.sound c.requires.numbered k lt) c.index.result.now (rw c.deref-listed-items.ensures.value at c.index.ensures) in
    targets_inside t n c.requires.sound c.requires.numbered k lt c.index.result.now read

pub loop-listed-preserved : goal.loop-listed-preserved
loop-listed-preserved c =
    let t = c.args.from.now in
    let n = c.args.self.now in
    let k = c.loop-listed.listed-index in
    let into = c.loop-listed.into in
    let inv = c.loop-listed.invariant in
    let push = c.push_reserved.ensures in
    let lt : k < vec_len n.listed = omega (arith, c.loop-listed-test.true, c.deref-listed-items.ensures.len) in
    let read = read_row t (ord n k) (row_inside t n c.requires.sound c.requires.numbered k lt) c.index.result.now (rw c.deref-listed-items.ensures.value at c.index.ensures) in (
      moved_more t n c.requires.sound c.requires.numbered k lt c.index.result.now read into (record { rows = c.push_reserved.new.self; roots = into.roots })
          c.by_numbers-node.result c.by_numbers-node.ensures.value c.by_numbers-node.ensures.edges inv.1 push.items inv.0,
      omega (arith, push.len, inv.1),
      omega (arith, push.capacity, inv.2),
      inv.3,
    )
