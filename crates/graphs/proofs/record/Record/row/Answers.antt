use Rattle.std.proofs.Common.{◌≡◌, ℕ, length, sym, ap, ◌∙◌, subst, arith, length-append}
use Rattle.std.specs.Slice.Iter.{chunks_exact_rest, chunks_exact_size}
use mathlib.Core.Option.{some}
use Rattle.features.specs.Listing.{little}
use Rattle.tables.specs.Views.{edge_of}
use Rattle.graphs.proofs.Entries.{RowUpTo, row_bare, row_more, row_whole}
use Rattle.graphs.proofs.Parts.{entry_next, entries_end}
use Rattle.graphs.proofs.record.Record.row.Goals as goal

pub loop-entry-init : goal.loop-entry-init
loop-entry-init c =
    let bs = c.args.self.now.bytes.now in
    let v = c.bare-row.ensures.value ∙ c.number_at.ensures.value in
    let same = c.into_iter-entry-iterator.ensures.into_iter_gives in
    record {
      size = ap chunks_exact_size same ∙ c.entries-entry-items.ensures.size;
      rest = ap chunks_exact_rest same ∙ c.entries-entry-items.ensures.rest;
      few = omega arith;
      row = row_bare bs 0 c.bare-row.result v (ap (little 8) c.bare-row.ensures.value ∙ c.number_at.ensures.bytes) c.bare-row.ensures.bare;
    }

pub lead-requires : goal.lead-requires
lead-requires c =
    let bs = c.args.self.now.bytes.now in
    let i = length c.loop-entry.yielded in
    let inv = c.loop-entry.invariant in
    let step = c.in-Some.ensures.steps in
    let entry = entry_next bs i c.in-Some.entry.now c.next.new.self.rest.now c.args.self.now.whole (step.1.1 ∙ inv.size) (sym inv.rest ∙ step.1.0) in
    omega (arith, c.from.ensures, entry.attribute, (c.requires i entry.inside).0)

pub loop-entry-preserved : goal.loop-entry-preserved
loop-entry-preserved c =
    let bs = c.args.self.now.bytes.now in
    let i = length c.loop-entry.yielded in
    let inv = c.loop-entry.invariant in
    let step = c.in-Some.ensures.steps in
    let entry = entry_next bs i c.in-Some.entry.now c.next.new.self.rest.now c.args.self.now.whole (step.1.1 ∙ inv.size) (sym inv.rest ∙ step.1.0) in
    let target = c.number_at-in-loop-entry.ensures.value ∙ entry.target in
    let bytes = c.number_at-in-loop-entry.ensures.bytes ∙ entry.target_bytes in
    let attribute = c.from.ensures ∙ entry.attribute in
    simp length-append (record {
      size = step.0 ∙ inv.size;
      rest = entry.others;
      few = omega (arith, entry.inside);
      row = row_more bs 0 i (omega (arith, c.args.self.now.whole)) c.requires entry.inside c.loop-entry.row c.lead.new.self c.number_at-in-loop-entry.result inv.row target bytes c.lead.ensures.value
          (subst (λ (z : ℕ). edge_of c.lead.new.self z ≡ some c.number_at-in-loop-entry.result) attribute c.lead.ensures.leads) (λ b other. c.lead.ensures.others b (λ e. other (e ∙ attribute)));
    })

pub returns : goal.returns
returns c =
    let bs = c.args.self.now.bytes.now in
    let inv = c.loop-entry.invariant in
    let all = entries_end bs (length c.loop-entry.yielded) c.args.self.now.whole inv.few (omega (arith, ap length inv.rest, inv.size, c.in-None.ensures.steps.1.0)) in
    row_whole bs 0 c.loop-entry.row (omega (arith, c.args.self.now.whole)) (subst (λ (z : ℕ). RowUpTo bs 0 z c.loop-entry.row) all inv.row)
