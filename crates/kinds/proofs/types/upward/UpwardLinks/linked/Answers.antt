use mathlib.Core.List.Memᴰ
use Rattle.std.proofs.Common.{subst, arith}
use Rattle.std.proofs.lemmas.Bool.{both_ways}
use Rattle.std.proofs.lemmas.List.{take_all}
use Rattle.kinds.specs.Masks.{has}
use Rattle.kinds.specs.BitSets.{has_none}
use Rattle.kinds.proofs.Linking.{Subtypes, subtypes_more}
use Rattle.kinds.proofs.types.upward.UpwardLinks.linked.Goals as goal

pub loop-link-init : goal.loop-link-init
loop-link-init c = (λ t h. absurd (both_ways (has 0 t) (has_none t) h), λ t s m. absurd (Memᴰ.not-nil m))

pub loop-link-preserved : goal.loop-link-preserved
loop-link-preserved c =
    let k = c.args.self.now in let few = k.counted.1 in let up = k.upward c.loop-link.link-index (omega arith) in
    subtypes_more k.links.now c.loop-link.link-index c.loop-link.types (omega arith) (omega arith) c.loop-link.invariant

pub returns : goal.returns
returns c =
    let inv = subst (λ x. Subtypes x c.loop-link.types) (take_all c.loop-link.link-index c.args.self.now.links.now (omega arith)) c.loop-link.invariant in
    record { only = inv.0; all = inv.1 }
