use Rattle.std.proofs.Common.{sym, ap, inl, inr}
use mathlib.Core.Option.{none}
use Rattle.joining.specs.Workspaces.{standing}
use Rattle.joining.proofs.Meeting.{meets_states}
use Rattle.joining.proofs.states.meet_states.Goals as goal

pub returns-in_err-a : goal.returns-in_err-a
returns-in_err-a g c = rw c.from_residual.ensures (λ v all. all none (inl (sym (ap standing c.in_err-a.was))))

pub returns-in_err-b : goal.returns-in_err-b
returns-in_err-b g c = rw c.from_residual-in_err-b.ensures (λ v all. all none (inr (sym (ap standing c.in_err-b.was))))

pub returns : goal.returns
returns g c =
    meets_states (g.K.Kind.meaning c.args.kind.now) c.args.a c.args.b c.meet.result c.in_ok-a.field-0 c.in_ok-b.field-0 c.in_ok-a.was c.in_ok-b.was c.meet.ensures
