use Rattle.std.proofs.Common.{ℕ, List, get_or, sym, ap, ◌∙◌, arith}
use Rattle.features.specs.Listing.{little}
use Rattle.tables.specs.Views.{graph}
use Rattle.buffers.proofs.Runs.{wrote_none, wrote_same}
use Rattle.listings.proofs.Lengths.{no_variables, length_variables, wrote_variable}
use Rattle.listings.proofs.writer.put_variables.Goals as goal

pub loop-root-init : goal.loop-root-init
loop-root-init c = wrote_same (sym (no_variables (graph c.args.table.now))) (wrote_none c.args.writer.now)

pub put_number-requires : goal.put_number-requires
put_number-requires c =
    let t = c.args.table.now in
    let so_far = length_variables (graph t) c.loop-root.root-index in
    record { width = omega arith; fits = omega (arith, so_far, length_variables (graph t) (graph t).vars) }

pub loop-root-preserved : goal.loop-root-preserved
loop-root-preserved c =
    let i = c.loop-root.root-index in
    let read = ap (λ (xs : List ℕ). get_or xs i 0) c.deref-root-items.ensures.value in
    wrote_variable (graph c.args.table.now) i c.loop-root.invariant (wrote_same (ap (little 2) (c.from.ensures ∙ read)) c.put_number.ensures)
