use Rattle.std.proofs.Common.{length, decimal, ap, arith}
use Rattle.buffers.proofs.Runs.{wrote_append, wrote_same}
use Rattle.printing.specs.Texts.{spaced}
use Rattle.printing.specs.Grounds.{number, names}
use Rattle.printing.proofs.Bounds.{refused_whole, length_refused}
use Rattle.printing.proofs.refusals.RefusedLine.put.Goals as goal

pub put-requires : goal.put-requires
put-requires c = let r = c.args.self.now in omega (arith, length_refused (number r.cause) (names r.trail.now r.cause))

pub put_spaced-requires : goal.put_spaced-requires
put_spaced-requires c =
    let r = c.args.self.now in
    omega (arith, length_refused (number r.cause) (names r.trail.now r.cause), ap (λ n. length (decimal n)) c.number.ensures)

pub put_names-requires : goal.put_names-requires
put_names-requires c =
    let r = c.args.self.now in
    omega (arith, length_refused (number r.cause) (names r.trail.now r.cause), ap (λ n. length (decimal n)) c.number.ensures)

pub put-requires-2 : goal.put-requires-2
put-requires-2 c =
    let r = c.args.self.now in
    omega (arith, length_refused (number r.cause) (names r.trail.now r.cause), ap (λ n. length (decimal n)) c.number.ensures)

pub returns : goal.returns
returns c =
    let r = c.args.self.now in
    let digits = wrote_same (ap (λ n. spaced (decimal n)) c.number.ensures) c.put_spaced.ensures in
    wrote_same (refused_whole (number r.cause) (names r.trail.now r.cause))
    (wrote_append (wrote_append (wrote_append c.put.ensures digits) c.put_names.ensures) c.put-2.ensures)
