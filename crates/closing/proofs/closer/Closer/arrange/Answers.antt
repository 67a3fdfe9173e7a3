use Rattle.tables.proofs.Known.{sound_known}
use Rattle.closing.proofs.Composing.{untouched}
use Rattle.closing.proofs.closer.Closer.arrange.Goals as goal

pub number-requires-clause-sound : goal.number-requires-clause-sound
number-requires-clause-sound c = sound_known c.args.self.now.work.sound

pub arrange-requires-clause-sound : goal.arrange-requires-clause-sound
arrange-requires-clause-sound c = sound_known c.args.self.now.work.sound

pub arrange-requires-clause-room : goal.arrange-requires-clause-room
arrange-requires-clause-room c = sound_known c.args.self.now.sound

pub returns-clause-work : goal.returns-clause-work
returns-clause-work c = untouched c.args.self.now.work _ _ _
