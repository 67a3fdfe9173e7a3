use Rattle.cases.proofs.Rows.{marked_cases}
use Rattle.cases.proofs.marked_cases.Goals as goal

pub returns : goal.returns
returns c = marked_cases
