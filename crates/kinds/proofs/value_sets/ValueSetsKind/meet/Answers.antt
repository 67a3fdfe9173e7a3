use Rattle.std.proofs.Common.{ℕ, ◌^◌, ◌<◌, not, eqb, inl, inr, arith}
use lib.Bits.{bit_and}
use Rattle.std.specs.Bool.{then_some}
use Rattle.std.proofs.lemmas.Bool.{cases_eq, eq-eqb, ne_eqb}
use Rattle.kinds.specs.Meets.{MeetOfTwo}
use Rattle.kinds.specs.ValueSets.{value_sets}
use Rattle.kinds.specs.LawfulSets.{shared_greatest, shared_some}
use Rattle.kinds.proofs.value_sets.ValueSetsKind.meet.Goals as goal

shared_meet : (a b : ℕ) → a < 2 ^ 64 → b < 2 ^ 64
    → MeetOfTwo value_sets a b (then_some (not (eqb (bit_and a b) 0)) (bit_and a b))
shared_meet a b ha hb =
    elim (cases_eq (bit_and a b) 0) [
      | inl e ↦ rw (eq-eqb (bit_and a b) 0 e) (λ v both. omega (arith, shared_some a b v both))
      | inr ne ↦ rw (ne_eqb (bit_and a b) 0 ne) (shared_greatest a b ha hb (omega arith))
    ]

pub returns : goal.returns
returns c = rw c.then_some.ensures (shared_meet c.args.a c.args.b c.ranges.a.fits c.ranges.b.fits)
