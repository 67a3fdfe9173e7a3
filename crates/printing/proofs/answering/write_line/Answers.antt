use Rattle.std.proofs.Common.{arith}
use Rattle.std.proofs.lemmas.Grind.{common_steps}
use Rattle.printing.proofs.Accepted.{line_fitted}
use Rattle.printing.proofs.answering.write_line.Goals as goal

pub returns : goal.returns
returns g c =
    line_fitted c.count.result c.over-writer.result c.put.new.writer c.over-writer.ensures.nothing c.over-writer.ensures.all_left c.put.ensures
    (grind (arith, common_steps)) c.count.ensures
