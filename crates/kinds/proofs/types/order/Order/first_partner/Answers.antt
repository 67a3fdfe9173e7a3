use Rattle.std.proofs.Common.{◌+◌, ◌<◌, ◌≤◌, ℕ, MatchOption, rules, tests, arith}
use Rattle.std.proofs.lemmas.Iterator.{first_from_Range}
use Rattle.kinds.specs.Hierarchy.{UnderLowest, Parted}
use Rattle.kinds.proofs.Options.{cases_then}
use Rattle.kinds.proofs.types.order.Order.first_partner.Goals as goal

pub returns : goal.returns
returns c =
    let below = c.args.self.now.below.items in let a = c.args.a in
    let found : MatchOption c.find.result ((k : ℕ) → a + 1 ≤ k → k < c.count-count.result → UnderLowest below a k)
    (λ b. (a + 1 ≤ b) × (b < c.count-count.result) × Parted below a b × ((k : ℕ) → a + 1 ≤ k → k < b → UnderLowest below a k)) =
    first_from_Range (record { start = a + 1; end = c.count-count.result }) _ _ c.find.result (Parted below a) (UnderLowest below a) c.find.ensures.ran
    (λ x q k. search (rules, tests)) (λ x q k. search (rules, tests)) in
    cases_then c.find.result (λ none y h k. none y (omega arith) (omega arith))
    (λ b p. (omega arith, omega arith, p.2, λ y h k. p.3 y (omega arith) k)) found
