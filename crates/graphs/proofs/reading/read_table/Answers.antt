use Rattle.std.proofs.Common.{arith}
use Rattle.std.proofs.lemmas.Result.{err_from_is_err_and}
use Rattle.features.proofs.Numbering.{in_order_breadth_first}
use Rattle.tables.specs.declared.table.Table.{Table}
use Rattle.tables.specs.Views.{graph}
use Rattle.graphs.proofs.Whole.{table_whole, inside_of}
use Rattle.graphs.proofs.reading.read_table.Goals as goal

pub returns-in_err-trailer-clause-cases : goal.returns-in_err-trailer-clause-cases
returns-in_err-trailer-clause-cases g c =
    let p = err_from_is_err_and c.from_residual.result c.from_residual.ensures.1 in
    rw (p.1, p.2) (c.in_err-trailer.ensures (g.K.Kind.meaning c.args.kind.now))

pub returns-in_err-read_roots-clause-cases : goal.returns-in_err-read_roots-clause-cases
returns-in_err-read_roots-clause-cases g c =
    let m = g.K.Kind.meaning c.args.kind.now in
    let p = err_from_is_err_and c.from_residual-in_err-read_roots.result c.from_residual-in_err-read_roots.ensures.1 in
    let records = c.in_ok-read_records.ensures.cases in
    rw (p.1, p.2) (c.in_err-read_roots.ensures.cases m records.1 records.2)

pub breadth_first-requires : goal.breadth_first-requires
breadth_first-requires g c =
    let m = g.K.Kind.meaning c.args.kind.now in
    let u : Table = record { rows = c.read_records.new.rows; roots = c.read_roots.new.roots } in
    let records = c.in_ok-read_records.ensures.cases in
    let roots = c.in_ok-read_roots.ensures.cases in
    let whole = table_whole m (g.met.K.Kind.lawful c.args.kind.now) c.args.bytes.now c.in_ok-trailer.trailer c.in_ok-trailer.ensures records.2 u
    (omega (arith, c.read_records.ensures.room, c.requires.row_room)) (omega (arith, c.read_roots.ensures.room, c.requires.root_room)) records.0 roots.0 records.3 roots.1 in
    whole.0

pub returns-then-not-breadth_first-clause-cases : goal.returns-then-not-breadth_first-clause-cases
returns-then-not-breadth_first-clause-cases g c =
    let m = g.K.Kind.meaning c.args.kind.now in
    let u : Table = record { rows = c.read_records.new.rows; roots = c.read_roots.new.roots } in
    let records = c.in_ok-read_records.ensures.cases in
    let roots = c.in_ok-read_roots.ensures.cases in
    let whole = table_whole m (g.met.K.Kind.lawful c.args.kind.now) c.args.bytes.now c.in_ok-trailer.trailer c.in_ok-trailer.ensures records.2 u
    (omega (arith, c.read_records.ensures.room, c.requires.row_room)) (omega (arith, c.read_roots.ensures.room, c.requires.root_room)) records.0 roots.0 records.3 roots.1 in
    (graph u, whole.1, λ order. c.if-not-breadth_first.ensures (in_order_breadth_first (graph u) (inside_of m c.args.bytes.now (graph u) whole.1) order))

pub returns-clause-cases : goal.returns-clause-cases
returns-clause-cases g c =
    let m = g.K.Kind.meaning c.args.kind.now in
    let u : Table = record { rows = c.read_records.new.rows; roots = c.read_roots.new.roots } in
    let records = c.in_ok-read_records.ensures.cases in
    let roots = c.in_ok-read_roots.ensures.cases in
    let whole = table_whole m (g.met.K.Kind.lawful c.args.kind.now) c.args.bytes.now c.in_ok-trailer.trailer c.in_ok-trailer.ensures records.2 u
    (omega (arith, c.read_records.ensures.room, c.requires.row_room)) (omega (arith, c.read_roots.ensures.room, c.requires.root_room)) records.0 roots.0 records.3 roots.1 in
    (whole.0, whole.1, c.if-not-breadth_first.ensures)
