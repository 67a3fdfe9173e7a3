use Rattle.growth.proofs.Growing.{grown_from_root}
use Rattle.growth.proofs.growth.term_grown_stands.Goals as goal

pub returns : goal.returns
returns c = λ m lawful g h state state' vars said p e. grown_from_root m lawful vars said p
