use Rattle.std.proofs.Common.{◌+◌, Some}
use Rattle.notation.specs.Readings.{within_term}
use Rattle.notation.specs.Views.{operand_reading}
use Rattle.notation.proofs.Stating.{longer, name_follows, name_stops}
use Rattle.notation.proofs.state.Operand.lengthen.Goals as goal

pub invariant_of-self : goal.invariant_of-self
invariant_of-self c =
    let o = c.args.self.now in
    let k = c.in_ok-appended.field-0 in
    let follows = name_follows o c.args.digit c.requires.digit k c.in_ok-appended.ensures in
    record { ranged = follows.1; short = longer (operand_reading o) (within_term o.place o.stem (Some k)) (48 + c.args.digit) follows c.requires.room }

pub returns : goal.returns
returns c = name_follows c.args.self.now c.args.digit c.requires.digit c.in_ok-appended.field-0 c.in_ok-appended.ensures

pub returns-in_err-appended : goal.returns-in_err-appended
returns-in_err-appended c = rw c.from_residual.ensures (name_stops c.args.self.now c.args.digit c.requires.digit c.in_err-appended.ensures)
