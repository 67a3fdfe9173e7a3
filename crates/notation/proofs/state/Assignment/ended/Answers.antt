use Rattle.std.proofs.Common.{ap}
use Rattle.std.specs.Option.{option_map}
use Rattle.notation.specs.Notation.{is}
use Rattle.notation.specs.Views.{assignment_reading}
use Rattle.notation.proofs.Stating.{silent}
use Rattle.notation.proofs.state.Assignment.ended.Goals as goal

pub returns-in_err-self : goal.returns-in_err-self
returns-in_err-self c =
    let a = c.args.self in
    rw c.from_residual.ensures (silent (assignment_reading a) a.ranged (ap (option_map (is a.term)) c.in_err-self.was))
