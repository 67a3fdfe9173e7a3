use Rattle.features.proofs.WorkedGraph.{satisfies_all}
use Rattle.features.proofs.worked.satisfies_all.Goals as goal

pub returns : goal.returns
returns c = satisfies_all
