use Rattle.std.proofs.Common.{get_or}
use Rattle.tables.proofs.Redirected.{partly_ended}
use Rattle.tables.proofs.node.Node.redirect.Goals as goal

pub returns-clause-edges : goal.returns-clause-edges
returns-clause-edges c =
    partly_ended (λ x. get_or c.args.to.now x 0) c.loop-attribute.attribute-iterator.left c.args.self.now c.loop-attribute.self c.in-None.ensures.steps.1.0
    c.loop-attribute.invariant.1
