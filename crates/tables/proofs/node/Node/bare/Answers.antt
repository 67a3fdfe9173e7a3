use Rattle.std.proofs.Common.{Bool, ◌&&◌, ltb, replicate, refl, ap, ◌∙◌}
use Rattle.kinds.specs.BitSets.{has_none}
use Rattle.tables.proofs.Leading.{absent, and_false}
use Rattle.tables.proofs.node.Node.bare.Goals as goal

pub returns : goal.returns
returns c = record { value = refl; bare = λ a. absent (record { value = c.args.value; present = 0; targets = replicate 32 0 }) a (ap (λ (x : Bool). ltb a 32 && x) (has_none a) ∙ and_false (ltb a 32)) }
