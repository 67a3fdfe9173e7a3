use Rattle.std.proofs.Common.{Some, None}
use Rattle.notation.specs.Notation.{point}
use Rattle.notation.specs.Readings.{within_term}
use Rattle.notation.specs.Views.{operand_reading}
use Rattle.notation.proofs.Stating.{longer, point_follows, point_stops}
use Rattle.notation.proofs.state.Operand.point.Goals as goal

pub returns-in_err-take : goal.returns-in_err-take
returns-in_err-take c = rw c.from_residual.ensures (point_stops c.args.self.now c.in_err-take.ensures.value)

pub invariant_of-self : goal.invariant_of-self
invariant_of-self c =
    let o = c.args.self.now in
    let term = c.in_ok-take.field-0 in
    let follows = point_follows o term c.in_ok-take.ensures.value in
    rw (c.in_ok-take.ensures.place, c.in_ok-take.ensures.number) (record { ranged = follows.1; short = longer (operand_reading o) (within_term o.place (Some term) None) point follows c.requires })

pub returns : goal.returns
returns c = rw (c.in_ok-take.ensures.place, c.in_ok-take.ensures.number) (point_follows c.args.self.now c.in_ok-take.field-0 c.in_ok-take.ensures.value)
