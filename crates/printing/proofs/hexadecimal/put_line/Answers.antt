use Rattle.std.proofs.Common.{sym, ap, arith, length-append}
use mathlib.Core.List.{flat_map}
use Rattle.std.proofs.lemmas.List.{take_all}
use Rattle.buffers.proofs.Runs.{wrote_none, wrote_append, wrote_same}
use Rattle.printing.specs.Texts.{line_end, hex_byte}
use Rattle.printing.proofs.Flat.{flat_none, flat_room, wrote_next}
use Rattle.printing.proofs.hexadecimal.put_line.Goals as goal

pub loop-byte-init : goal.loop-byte-init
loop-byte-init c = wrote_same (sym (flat_none hex_byte)) (wrote_none c.args.writer.now)

pub put_byte-requires : goal.put_byte-requires
put_byte-requires c =
    omega (arith, flat_room hex_byte c.args.bytes.now c.loop-byte.byte-index c.loop-byte-test.true, length-append (flat_map hex_byte c.args.bytes.now) line_end)

pub loop-byte-preserved : goal.loop-byte-preserved
loop-byte-preserved c = wrote_next hex_byte c.args.bytes.now c.loop-byte.byte-index c.loop-byte-test.true c.loop-byte.invariant c.put_byte.ensures

pub returns : goal.returns
returns c =
    let all = take_all c.loop-byte.byte-index c.args.bytes.now (omega arith) in
    wrote_append (wrote_same (ap (flat_map hex_byte) all) c.loop-byte.invariant) c.put.ensures
