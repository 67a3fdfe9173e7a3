use Rattle.answers.proofs.Answering.{answers_are_unique}
use Rattle.answers.proofs.theorems.answers_are_unique.Goals as goal

pub returns : goal.returns
returns c = answers_are_unique
