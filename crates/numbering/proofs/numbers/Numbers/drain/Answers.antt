use Rattle.std.proofs.Common.{ℕ, ◌+◌, List, sym, ap, ◌∙◌, subst, arith}
use Rattle.features.specs.Numbering.{by_attribute}
use Rattle.tables.specs.Views.{graph}
use Rattle.queue.specs.Waiting.{waiting}
use Rattle.numbering.specs.Given.{ord, num}
use Rattle.numbering.specs.Frontier.{Underway}
use Rattle.numbering.proofs.Steps.{Popped, popped, waiting_long, drained}
use Rattle.numbering.proofs.numbers.Numbers.drain.Goals as goal

pub visit-requires : goal.visit-requires
visit-requires c =
    let g = graph c.args.table.now in
    let n = c.loop-row.self in
    let v = c.loop-row.invariant.0 in
    let rest = waiting c.pop.new.self in
    let p : Popped g (by_attribute v 0) v n c.in-Some.row rest =
    popped g (by_attribute v 0) v n c.in-Some.row rest (subst (λ (z : List ℕ). Underway g (by_attribute v 0) v n z) c.in-Some.ensures.first c.loop-row.invariant.1) in
    record {
      sound = c.requires.sound;
      inside = p.inside;
      has = (omega (arith, p.number, p.in_count), ap (ord n) p.number ∙ p.order);
      start = subst (λ (z : ℕ). Underway g (by_attribute z 0) (z + 1) n rest) (sym p.number) p.others;
      space = omega (arith, c.in-Some.ensures.room, c.loop-row.invariant.2);
    }

pub loop-row-preserved : goal.loop-row-preserved
loop-row-preserved c =
    (num c.loop-row.self c.in-Some.row + 1, c.visit.ensures.numbered, omega (arith, c.visit.ensures.capacity, c.in-Some.ensures.room, c.loop-row.invariant.2))

pub loop-row-smaller : goal.loop-row-smaller
loop-row-smaller c =
    let g = graph c.args.table.now in
    let n = c.loop-row.self in
    let v = c.loop-row.invariant.0 in
    let rest = waiting c.pop.new.self in
    let p : Popped g (by_attribute v 0) v n c.in-Some.row rest =
    popped g (by_attribute v 0) v n c.in-Some.row rest (subst (λ (z : List ℕ). Underway g (by_attribute v 0) v n z) c.in-Some.ensures.first c.loop-row.invariant.1) in
    let i = num n c.in-Some.row in
    let before = waiting_long g (by_attribute v 0) v n (waiting c.loop-row.queue) c.loop-row.invariant.1 in
    let after = waiting_long g (by_attribute (i + 1) 0) (i + 1) c.visit.new.self (waiting c.visit.new.queue) c.visit.ensures.numbered in
    omega (arith, p.number, p.in_count, c.visit.ensures.numbered.visited, c.visit.new.self.few, n.few)

pub returns : goal.returns
returns c =
    let g = graph c.args.table.now in
    let v = c.loop-row.invariant.0 in
    drained g v c.loop-row.self (subst (λ (z : List ℕ). Underway g (by_attribute v 0) v c.loop-row.self z) c.in_default.ensures.first.0 c.loop-row.invariant.1)
