use Rattle.features.proofs.WorkedGraph.{two_terms_denote_nothing}
use Rattle.features.proofs.worked.two_terms_denote_nothing.Goals as goal

pub returns : goal.returns
returns c = two_terms_denote_nothing
