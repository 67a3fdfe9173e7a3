use Rattle.growth.proofs.Growing.{pair_grown}
use Rattle.growth.proofs.growth.pair_grown_stands.Goals as goal

pub returns : goal.returns
returns c = λ m lawful g f h state between state' vars. pair_grown m lawful vars g f h state between state'
