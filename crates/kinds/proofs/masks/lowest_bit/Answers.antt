use Rattle.std.proofs.Common.{ℕ, ◌^◌, ◌<◌, ltb, inl, inr, arith}
use lib.Count.{count_trailing_zeros}
use Rattle.std.specs.Bool.{then_some}
use Rattle.std.proofs.lemmas.Bool.{both_ways, cases_lt, lt-ltb, le-ltb}
use Rattle.kinds.specs.Masks.{has, LowestBit}
use Rattle.kinds.specs.BitSets.{lowest_set, lowest_le, has_past}
use Rattle.kinds.proofs.masks.lowest_bit.Goals as goal

lowest_answers : (mask : ℕ) → mask < 2 ^ 64
    → LowestBit mask (then_some (ltb (count_trailing_zeros 64 mask) 64) (count_trailing_zeros 64 mask))
lowest_answers mask fits =
    elim (cases_lt (count_trailing_zeros 64 mask) 64) [
      | inl l ↦ rw (lt-ltb (count_trailing_zeros 64 mask) 64 l) (l, lowest_set 64 mask l, lowest_le 64 mask)
      | inr g ↦ rw (le-ltb (count_trailing_zeros 64 mask) 64 g)
          (λ t h. let l = lowest_le 64 mask t h in both_ways (has mask t) (has_past mask 64 t fits (omega arith)) h)
    ]

pub returns : goal.returns
returns c = rw c.then_some.ensures (lowest_answers c.args.mask c.ranges.mask.fits)
