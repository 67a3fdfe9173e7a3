use Rattle.std.proofs.Common.{length, sym, ap, ◌∙◌, arith}
use mathlib.Core.List.{flat_map}
use Rattle.std.proofs.lemmas.List.{take_all}
use Rattle.buffers.proofs.Runs.{wrote_none, wrote_same}
use Rattle.printing.proofs.Flat.{flat_none, flat_room, wrote_next, attribute_text, written_path_flat}
use Rattle.printing.proofs.numbers.put_path.Goals as goal

pub loop-attribute-init : goal.loop-attribute-init
loop-attribute-init c = wrote_same (sym (flat_none attribute_text)) (wrote_none c.args.writer.now)

pub put_attribute-requires : goal.put_attribute-requires
put_attribute-requires c =
    let path = c.args.path.now in
    omega (arith, ap length (written_path_flat path), flat_room attribute_text path c.loop-attribute.attribute-index c.loop-attribute-test.true)

pub loop-attribute-preserved : goal.loop-attribute-preserved
loop-attribute-preserved c =
    wrote_next attribute_text c.args.path.now c.loop-attribute.attribute-index c.loop-attribute-test.true c.loop-attribute.invariant c.put_attribute.ensures

pub returns : goal.returns
returns c =
    let path = c.args.path.now in
    let all = take_all c.loop-attribute.attribute-index path (omega arith) in
    wrote_same (ap (flat_map attribute_text) all ∙ sym (written_path_flat path)) c.loop-attribute.invariant
