use Rattle.std.proofs.Common.{ℕ, List, length, ap, ◌∙◌, arith}
use Rattle.features.specs.Listing.{little}
use Rattle.tables.specs.Views.{graph}
use Rattle.buffers.proofs.Runs.{wrote_append, wrote_same, written_is}
use Rattle.listings.specs.Parts.{first_nodes}
use Rattle.listings.proofs.Lengths.{length_variables, length_parts, written_parts}
use Rattle.listings.proofs.writer.put_listing.Goals as goal

pub put_nodes-requires : goal.put_nodes-requires
put_nodes-requires c =
    let g = graph c.args.table.now in
    record { sound = c.requires.sound; fits = omega (arith, length_parts g, length_variables g g.vars) }

pub put_variables-requires : goal.put_variables-requires
put_variables-requires c =
    let g = graph c.args.table.now in
    record { sound = c.requires.sound; fits = omega (arith, length_parts g, length_variables g g.vars) }

pub put_number-requires : goal.put_number-requires
put_number-requires c =
    let g = graph c.args.table.now in record { width = omega arith; fits = omega (arith, length_parts g, length_variables g g.vars) }

pub put_number-requires-2 : goal.put_number-requires-2
put_number-requires-2 c =
    let g = graph c.args.table.now in record { width = omega arith; fits = omega (arith, length_parts g, length_variables g g.vars) }

pub put_number-requires-3 : goal.put_number-requires-3
put_number-requires-3 c =
    let g = graph c.args.table.now in record { width = omega arith; fits = omega (arith, length_parts g, length_variables g g.vars) }

pub returns : goal.returns
returns c =
    let g = graph c.args.table.now in
    let nodes : List ℕ = first_nodes g g.nodes in
    let place = c.count-variables.ensures ∙ ap (length {A = ℕ}) (written_is c.args.writer.now c.put_nodes.new.writer c.requires.first c.put_nodes.ensures) in
    let count = wrote_same (ap (little 2) c.len.ensures) c.put_number.ensures in
    let variables = wrote_same (ap (little 2) c.len-2.ensures) c.put_number-2.ensures in
    let last = wrote_same (ap (little 4) place) c.put_number-3.ensures in
    wrote_same (written_parts g)
    (wrote_append (wrote_append (wrote_append (wrote_append c.put_nodes.ensures c.put_variables.ensures) count) variables) last)
