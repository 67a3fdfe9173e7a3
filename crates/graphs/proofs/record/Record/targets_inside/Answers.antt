use Rattle.std.proofs.Common.{◌<◌, length, sym, ◌∙◌, arith, length-append}
use Rattle.graphs.specs.Listings.{target_at}
use Rattle.graphs.proofs.Parts.{upto, entry_next}
use Rattle.graphs.proofs.record.Record.targets_inside.Goals as goal

pub returns-then-number_at-nodes : goal.returns-then-number_at-nodes
returns-then-number_at-nodes c inside =
    let i = length c.loop-entry.yielded in
    let inv = c.loop-entry.invariant in
    let step = c.in-Some.ensures.steps in
    let entry = entry_next c.args.self.now.bytes.now i c.in-Some.entry.now c.next.new.self.rest.now c.args.self.now.whole (step.1.1 ∙ inv.size) (sym inv.rest ∙ step.1.0) in
    let t = inside i entry.inside in
    omega (arith, t, entry.target, c.number_at.ensures.value, c.if-number_at-nodes.true)

pub loop-entry-preserved : goal.loop-entry-preserved
loop-entry-preserved c =
    let bs = c.args.self.now.bytes.now in
    let i = length c.loop-entry.yielded in
    let inv = c.loop-entry.invariant in
    let step = c.in-Some.ensures.steps in
    let entry = entry_next bs i c.in-Some.entry.now c.next.new.self.rest.now c.args.self.now.whole (step.1.1 ∙ inv.size) (sym inv.rest ∙ step.1.0) in
    simp length-append (record {
      size = step.0 ∙ inv.size;
      rest = entry.others;
      few = omega (arith, entry.inside);
      inside = upto (λ z. target_at bs 0 z < c.args.nodes) i inv.inside (omega (arith, entry.target, c.number_at.ensures.value, c.if-number_at-nodes.false));
    })
