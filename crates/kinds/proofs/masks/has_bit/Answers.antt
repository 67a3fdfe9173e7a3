use Rattle.std.proofs.Common.{ℕ, ◌/◌, ◌^◌, eqb, sym, ap, ◌∙◌, arith}
use lib.Bits.{and_mask}
use Rattle.std.proofs.lemmas.Bool.{le-ltb}
use Rattle.kinds.specs.Masks.{has}
use Rattle.kinds.specs.BitSets.{has_past}
use Rattle.kinds.proofs.masks.has_bit.Goals as goal

pub returns-then-bit-lt64 : goal.returns-then-bit-lt64
unfolding has
returns-then-bit-lt64 c = ap (λ (x : ℕ). eqb x 1) (and_mask (c.args.mask / 2 ^ c.args.bit) 1)

pub returns-else-bit-lt64 : goal.returns-else-bit-lt64
returns-else-bit-lt64 c =
    le-ltb c.args.bit 64 (omega arith) ∙ sym (has_past c.args.mask 64 c.args.bit (omega arith) (omega arith))
