use Rattle.std.proofs.Common.{◌≡◌, ℕ, ◌+◌, ◌*◌, ◌<◌, length, take, drop, sym, ap, ◌∙◌, subst, arith, length-append}
use Rattle.graphs.specs.Listings.{field, node_count, variable_count, root_at}
use Rattle.graphs.specs.Reading.{RootsBelow}
use Rattle.graphs.proofs.Parts.{upto, field_next}
use Rattle.graphs.proofs.Whole.{roots_more}
use Rattle.graphs.proofs.listing.Listing.read_roots.Goals as goal

pub returns-then-from-nodes-clause-cases : goal.returns-then-from-nodes-clause-cases
returns-then-from-nodes-clause-cases g c m below ends =
    let bs = c.args.self.now.bytes.now in
    let t = c.args.self.now.trailer in
    let of = c.args.self.now.counted in
    let inv = c.loop-variable.invariant in
    let x = length c.loop-variable.yielded in
    let step = c.in-Some.ensures.steps in
    let next = field_next bs t.place t.variables x c.in-Some.field.now c.next.new.self.iter.rest.now (omega (arith, of.counted.whole, of.place, of.variables)) (step.0.1.1 ∙ inv.size) (sym inv.rest ∙ step.0.1.0) in
    let is : c.number_at-root.result ≡ root_at bs x = c.number_at-root.ensures.value ∙ next.value ∙ ap (λ (z : ℕ). field bs (z + 2 * x) 2) of.place in
    let here : x ≡ c.in-Some.variable = sym (step.1 ∙ inv.count) in
    subst (λ (z : ℕ). RootsBelow m bs z × (z < variable_count bs) × (root_at bs z < node_count bs → ⊥)) here
    (record { below = below; ends = ends; roots = inv.inside }, omega (arith, next.inside, of.variables), λ l. omega (arith, l, is, c.from.ensures, c.if-from-nodes.true, of.nodes))

pub loop-variable-preserved : goal.loop-variable-preserved
loop-variable-preserved g c =
    let bs = c.args.self.now.bytes.now in
    let t = c.args.self.now.trailer in
    let of = c.args.self.now.counted in
    let inv = c.loop-variable.invariant in
    let x = length c.loop-variable.yielded in
    let step = c.in-Some.ensures.steps in
    let next = field_next bs t.place t.variables x c.in-Some.field.now c.next.new.self.iter.rest.now (omega (arith, of.counted.whole, of.place, of.variables)) (step.0.1.1 ∙ inv.size) (sym inv.rest ∙ step.0.1.0) in
    let root = c.number_at-root.result in
    let is : root ≡ root_at bs x = c.number_at-root.ensures.value ∙ next.value ∙ ap (λ (z : ℕ). field bs (z + 2 * x) 2) of.place in
    let inside : root < node_count bs = omega (arith, c.from.ensures, c.if-from-nodes.false, of.nodes) in
    let bytes = c.number_at-root.ensures.bytes ∙ next.bytes ∙ ap (λ (z : ℕ). take 2 (drop (z + 2 * x) bs)) of.place in
    simp length-append (record {
      size = step.0.0 ∙ inv.size;
      count = step.2 ∙ ap (λ (z : ℕ). z + 1) inv.count;
      rest = next.others;
      roots = roots_more bs c.loop-variable.roots.items c.push_reserved.new.self.items x root (sym c.loop-variable.roots.ok.0 ∙ inv.many) c.push_reserved.ensures.items inside bytes inv.roots;
      inside = upto (λ z. root_at bs z < node_count bs) x inv.inside (subst (λ (z : ℕ). z < node_count bs) is inside);
      many = c.push_reserved.ensures.len ∙ ap (λ (z : ℕ). z + 1) inv.many;
      room = c.push_reserved.ensures.capacity ∙ inv.room;
    })
