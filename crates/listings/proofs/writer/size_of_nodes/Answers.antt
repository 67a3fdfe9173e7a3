use Rattle.std.proofs.Common.{List, ap, ◌∙◌, arith, rules, tests}
use Rattle.std.proofs.lemmas.Iterator.{YieldsList-from_slice, YieldsList-from_map}
use Rattle.std.proofs.lemmas.Iterator.Consumers.{sum_by_from_yields_List, fits_by_from_yields_list}
use Rattle.tables.specs.declared.node.Node.{Node}
use Rattle.tables.specs.Views.{row, graph}
use Rattle.listings.proofs.Lengths.{width_of, sum_of_widths, first_nodes_bound}
use Rattle.listings.proofs.writer.size_of_nodes.Goals as goal

pub sum-requires-clause-fits : goal.sum-requires-clause-fits
sum-requires-clause-fits c =
    let t = c.args.table.now in
    let rows = c.deref.result.now in
    let sum = sum_of_widths t rows (c.deref.ensures.len) (λ n l. ap (λ (xs : List Node). row xs n) c.deref.ensures.value) in
    fits_by_from_yields_list width_of rows c.map.result _
    (YieldsList-from_map _ width_of (YieldsList-from_slice rows cc) c.map.ensures.closure (λ x r q k. search (rules, tests)))
    (omega (arith, sum, first_nodes_bound (graph t) (graph t).nodes))

pub returns : goal.returns
returns c =
    let rows = c.deref.result.now in
    sum_by_from_yields_List width_of rows c.map.result c.sum.result c.sum.ensures.ran
    (YieldsList-from_map _ width_of (YieldsList-from_slice rows cc) c.map.ensures.closure (λ x r q k. search (rules, tests)))
    ∙ sum_of_widths c.args.table.now rows (c.deref.ensures.len) (λ n l. ap (λ (xs : List Node). row xs n) c.deref.ensures.value)
