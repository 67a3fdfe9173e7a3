use Rattle.std.proofs.Common.{length, ap, rules}
use Rattle.kinds.proofs.Members.{has_positive, members_none, members_first}
use Rattle.kinds.proofs.masks.BitsIterator.next.Goals as goal

pub returns-in_err-bit-clause-steps : goal.returns-in_err-bit-clause-steps
returns-in_err-bit-clause-steps c =
    let none = members_none c.args.self.now.left c.in_err-bit.ensures in rw c.from_residual.ensures (none, none)

pub overflow_sub-self : goal.overflow_sub-self
overflow_sub-self c = has_positive c.args.self.now.left c.in_ok-bit.bit c.in_ok-bit.ensures.1

pub returns-clause-steps : goal.returns-clause-steps
returns-clause-steps c =
    let low = c.in_ok-bit.ensures in members_first c.args.self.now.left c.in_ok-bit.bit low.0 low.1 low.2

pub returns-clause-goes : goal.returns-clause-goes
returns-clause-goes c =
    let low = c.in_ok-bit.ensures in
    let e = ap length (members_first c.args.self.now.left c.in_ok-bit.bit low.0 low.1 low.2) in search rules
