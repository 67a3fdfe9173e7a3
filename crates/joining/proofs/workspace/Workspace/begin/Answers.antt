use Rattle.tables.proofs.Known.{sound_known}
use Rattle.joining.proofs.workspace.Workspace.begin.Goals as goal

pub copy_from-requires-clause-own : goal.copy_from-requires-clause-own
copy_from-requires-clause-own c = sound_known c.args.self.now.sound
