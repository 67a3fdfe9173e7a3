use Rattle.std.proofs.Common.{sym, ◌∙◌}
use Rattle.features.proofs.Bytes.{little_8}
use Rattle.buffers.proofs.Runs.{wrote_same}
use Rattle.listings.proofs.Numbers.{first_bytes}
use Rattle.listings.proofs.parts.put_number.Goals as goal

pub returns : goal.returns
returns w c = wrote_same (first_bytes w.row.WIDTH c.args.n c.to_le_bytes.result c.requires.width (c.to_le_bytes.ensures ∙ sym (little_8 c.args.n))) c.put.ensures
