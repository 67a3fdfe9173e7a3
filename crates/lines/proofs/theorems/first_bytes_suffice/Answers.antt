use Rattle.lines.proofs.Lines as lines
use Rattle.lines.proofs.theorems.first_bytes_suffice.Goals as goal

pub returns : goal.returns
returns c = lines.first_bytes_suffice
