use Rattle.growth.proofs.Growing.{grown_to}
use Rattle.growth.proofs.growth.grown_stands.Goals as goal

pub returns : goal.returns
returns c = λ m lawful g h state state' vars said p n e path stands d grown. grown_to m lawful vars grown said p stands d
