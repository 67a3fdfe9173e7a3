use Rattle.std.proofs.Common.{◌≡◌, get_or}
use Rattle.tables.proofs.Redirected.{Partly}
use Rattle.tables.proofs.node.Node.redirect.Given as goal

-- the attributes that are to come lead where they led, and the others where they are sent
abbrev pub invariant-loop-attribute : goal.invariant-loop-attribute
invariant-loop-attribute l =
    (l.attribute-iterator.node.now ≡ l.initial.self) × Partly (λ x. get_or l.to x 0) l.attribute-iterator.left l.initial.self l.self
