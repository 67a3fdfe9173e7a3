use Rattle.answers.proofs.Keeping.{fresh}
use Rattle.answers.proofs.Promising.{listed_can_be_read}
use Rattle.answers.proofs.theorems.listed_can_be_read.Goals as goal

pub returns : goal.returns
returns c = λ m lawful s t u es before after n holds run step.
    listed_can_be_read (λ h. h.graph) (λ h. h.kept) m lawful s (fresh (λ h. h.graph) (λ h. h.kept) m s holds) es t run before after n u step
