use Rattle.std.proofs.Common.{decimal, arith, length-append}
use Rattle.buffers.proofs.Runs.{wrote_append}
use Rattle.notation.specs.Notation.{written_path, written_term}
use Rattle.printing.proofs.numbers.put_term.Goals as goal

pub put_decimal-requires : goal.put_decimal-requires
unfolding written_term
put_decimal-requires c = omega (arith, length-append (decimal c.args.var) (written_path c.args.path.now))

pub put_path-requires : goal.put_path-requires
unfolding written_term
put_path-requires c = omega (arith, length-append (decimal c.args.var) (written_path c.args.path.now))

pub returns : goal.returns
unfolding written_term
returns c = wrote_append c.put_decimal.ensures c.put_path.ensures
