use Rattle.growth.proofs.Growing.{value_mentions}
use Rattle.growth.proofs.growth.value_mentions_its_term.Goals as goal

pub returns : goal.returns
returns c = value_mentions
