use Rattle.session.proofs.Denoting.{one_where_equal}
use Rattle.session.proofs.nodes.on_one_node.Goals as goal

pub returns-in-Some-Some : goal.returns-in-Some-Some
returns-in-Some-Some c = one_where_equal _ _ _ c.in-Some-Some.a c.in-Some-Some.b c.in-Some-Some.ensures.0 c.in-Some-Some.ensures'.0
