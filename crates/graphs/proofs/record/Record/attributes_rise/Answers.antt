use Rattle.std.proofs.Common.{ℕ, ◌+◌, ◌<◌, get_or, length, sym, ◌∙◌, inl, inr, arith, length-append}
use Rattle.graphs.specs.Listings.{attribute_at}
use Rattle.graphs.proofs.Parts.{upto, entry_next}
use Rattle.graphs.proofs.record.Record.attributes_rise.Goals as goal
use Rattle.graphs.proofs.record.Record.attributes_rise.Goals.{then-attribute-least-via-then-attribute-least, then-attribute-least-via-else-attribute-least+then-attribute-gt31}

pub returns-then-attribute-least : goal.returns-then-attribute-least
returns-then-attribute-least c rising =
    let i = length c.loop-entry.yielded in
    let inv = c.loop-entry.invariant in
    let step = c.in-Some.ensures.steps in
    let entry = entry_next c.args.self.now.bytes.now i c.in-Some.entry.now c.next.new.self.rest.now c.args.self.now.whole (step.1.1 ∙ inv.size) (sym inv.rest ∙ step.1.0) in
    let up = rising i entry.inside in
    elim c.then-attribute-least.branch [
      | then-attribute-least-via-then-attribute-least w ↦ elim inv.last [
        | inl e ↦ omega (arith, e, w.if-attribute-least)
        | inr o ↦ let above = up.1 o.0 o.1 in omega (arith, above, o.2, w.if-attribute-least, entry.attribute)
      ]
      | then-attribute-least-via-else-attribute-least+then-attribute-gt31 w ↦ omega (arith, up.0, w.if-attribute-gt31, entry.attribute)
    ]

pub loop-entry-preserved : goal.loop-entry-preserved
loop-entry-preserved c =
    let bs = c.args.self.now.bytes.now in
    let i = length c.loop-entry.yielded in
    let inv = c.loop-entry.invariant in
    let step = c.in-Some.ensures.steps in
    let entry = entry_next bs i c.in-Some.entry.now c.next.new.self.rest.now c.args.self.now.whole (step.1.1 ∙ inv.size) (sym inv.rest ∙ step.1.0) in
    let at_least = c.if-attribute-least.false in
    let small = c.if-attribute-gt31.false in
    let attribute = entry.attribute in
    simp length-append (record {
      size = step.0 ∙ inv.size;
      rest = entry.others;
      few = omega (arith, entry.inside);
      rise = upto (λ z. (attribute_at bs 0 z < get_or c.in-Some.entry.now 0 0 + 1) × (attribute_at bs 0 z < 32) × ((k : ℕ) → k < z → attribute_at bs 0 k < attribute_at bs 0 z)) i
          (λ j l. let o = inv.rise j l in (omega (arith, o.0, at_least), o.1, o.2))
          (omega (arith, attribute), omega (arith, attribute, small), λ k l. let o = inv.rise k l in omega (arith, o.0, at_least, attribute));
      most = omega (arith, small);
      last = inr (i, omega arith, omega (arith, attribute));
    })
