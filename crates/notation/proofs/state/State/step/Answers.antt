use Rattle.std.proofs.Common.{◌≡◌, None, rules}
use Rattle.notation.specs.Views.{reading_of}
use Rattle.notation.proofs.Machine.{step}
use Rattle.notation.proofs.Stepping.{stops}
use Rattle.notation.proofs.Stating.{state_ranged}
use Rattle.notation.proofs.state.State.step.Goals as goal

pub returns-in_default : goal.returns-in_default
returns-in_default c =
    let s = c.args.self.now in
    let stuck : step (reading_of s) c.of.result ≡ None = search rules in
    stops (reading_of s) c.of.result c.args.byte c.of.ensures (state_ranged s) stuck

pub returns-in_default-3 : goal.returns-in_default-3
returns-in_default-3 c =
    let s = c.args.self.now in
    let stuck : step (reading_of s) c.of.result ≡ None = search rules in
    stops (reading_of s) c.of.result c.args.byte c.of.ensures (state_ranged s) stuck

pub returns-in_default-4 : goal.returns-in_default-4
returns-in_default-4 c =
    let s = c.args.self.now in
    let stuck : step (reading_of s) c.of.result ≡ None = search rules in
    stops (reading_of s) c.of.result c.args.byte c.of.ensures (state_ranged s) stuck
