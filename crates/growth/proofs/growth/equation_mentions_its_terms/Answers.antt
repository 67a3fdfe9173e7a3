use Rattle.growth.proofs.Growing.{equation_mentions}
use Rattle.growth.proofs.growth.equation_mentions_its_terms.Goals as goal

pub returns : goal.returns
returns c = equation_mentions
