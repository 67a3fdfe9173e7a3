use Rattle.notation.proofs.Stating.{value_follows, value_stops}
use Rattle.notation.proofs.state.Assignment.lengthen.Goals as goal

pub returns : goal.returns
returns c = value_follows c.args.self.now c.args.digit c.requires c.in_ok-appended.field-0 c.in_ok-appended.ensures

pub returns-in_err-appended : goal.returns-in_err-appended
returns-in_err-appended c = rw c.from_residual.ensures (value_stops c.args.self.now c.args.digit c.requires c.in_err-appended.ensures)
