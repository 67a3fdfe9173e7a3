use Rattle.lines.proofs.Memory as memory
use Rattle.lines.proofs.theorems.memory_suffices.Goals as goal

pub returns : goal.returns
returns c = memory.memory_suffices
