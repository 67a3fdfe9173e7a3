use Rattle.std.proofs.Common.{sym}
use Rattle.std.proofs.lemmas.List.{length-take-le}
use Rattle.buffers.specs.Writing.{so_far}
use Rattle.buffers.proofs.Writer.count.Goals as goal

pub returns : goal.returns
unfolding so_far
returns c = let w = c.args.self.now in sym (length-take-le w.at w.buffer.now w.inside)
