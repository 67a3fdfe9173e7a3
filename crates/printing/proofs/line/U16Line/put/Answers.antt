use Rattle.buffers.proofs.Runs.{wrote_append}
use Rattle.printing.proofs.line.U16Line.put.Goals as goal

pub returns : goal.returns
returns c = wrote_append (wrote_append c.put.ensures c.put_spaced.ensures) c.put-2.ensures
