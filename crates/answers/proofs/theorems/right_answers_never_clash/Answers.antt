use Rattle.answers.proofs.Keeping.{no_clash_after}
use Rattle.answers.proofs.theorems.right_answers_never_clash.Goals as goal

pub returns : goal.returns
returns c = λ m lawful g kept vars said call answer holds free right. no_clash_after m lawful g kept vars said holds free right
