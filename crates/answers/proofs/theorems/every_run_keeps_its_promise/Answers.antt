use Rattle.answers.proofs.Keeping.{fresh}
use Rattle.answers.proofs.Promising.{promise}
use Rattle.answers.proofs.theorems.every_run_keeps_its_promise.Goals as goal

pub returns : goal.returns
returns c = λ m lawful s holds. promise (λ h. h.graph) (λ h. h.kept) m lawful s (fresh (λ h. h.graph) (λ h. h.kept) m s holds)
