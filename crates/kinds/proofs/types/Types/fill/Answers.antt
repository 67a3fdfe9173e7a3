use Rattle.std.proofs.Common.{Ok, rules}
use Rattle.kinds.specs.Types.{Filled}
use Rattle.kinds.proofs.Settling.{filled_settled}
use Rattle.kinds.proofs.types.Types.fill.Goals as goal

pub invariant_of-self : goal.invariant_of-self
invariant_of-self c = record { sound = ∣ c.in_ok-order.ensures.1 ∣₁ }

pub returns-in_err-order : goal.returns-in_err-order
returns-in_err-order c =
    let n = c.args.count in let links = c.args.links.now in let marks = c.args.leaves in
    let before = c.args.self.now in
    let f : Filled n links marks before c.from_residual.result before = search rules in
    record { filled = f; settled = filled_settled n links marks before c.from_residual.result before f }

pub returns : goal.returns
returns c =
    let made = c.in_ok-order.ensures in
    record {
      filled = (made.0, made.2);
      settled =
          filled_settled c.args.count c.args.links.now c.args.leaves c.args.self.now (Ok tt) _ (made.0, made.2);
    }
