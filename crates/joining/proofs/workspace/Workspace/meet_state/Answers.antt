use Rattle.std.proofs.Common.{sym, refl}
use Rattle.joining.specs.Workspaces.{state, standing}
use Rattle.joining.proofs.Steps.{states_met}
use Rattle.joining.proofs.workspace.Workspace.meet_state.Goals as goal

pub returns-clause-met : goal.returns-clause-met
returns-clause-met g c =
    let row = c.args.row in
    states_met (g.K.Kind.meaning c.args.kind.now) (standing c.state_of.result) (standing c.args.other) (standing c.meet_states-met.result) (state c.args.self.now row) (standing c.args.other)
    (state c.put_state.new.self row) c.state_of.ensures refl (sym c.put_state.ensures.stands) c.meet_states-met.ensures
