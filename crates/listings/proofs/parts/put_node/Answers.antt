use Rattle.std.proofs.Common.{ap, ◌∙◌, arith}
use Rattle.features.specs.Listing.{little}
use Rattle.buffers.proofs.Runs.{wrote_append, wrote_same}
use Rattle.listings.proofs.Lengths.{degree_bound, bytes_parts, bytes_before_entries}
use Rattle.listings.proofs.Numbers.{one_byte}
use Rattle.listings.proofs.parts.put_node.Goals as goal

pub put_number-requires : goal.put_number-requires
put_number-requires c = record { width = omega arith; fits = omega (arith, bytes_before_entries c.args.node.now) }

pub put_number-requires-2 : goal.put_number-requires-2
put_number-requires-2 c = record { width = omega arith; fits = omega (arith, bytes_before_entries c.args.node.now) }

pub put_entries-requires : goal.put_entries-requires
put_entries-requires c = omega (arith, bytes_before_entries c.args.node.now)

pub returns : goal.returns
returns c =
    let r = c.args.node.now in
    let few = degree_bound r c.degree.result c.degree.ensures in
    let degree = ap (little 1) c.from.ensures ∙ one_byte c.degree.result (omega arith) in
    wrote_same (bytes_parts r c.degree.result c.degree.ensures)
    (wrote_append (wrote_append c.put_number.ensures (wrote_same degree c.put_number-2.ensures)) c.put_entries.ensures)
