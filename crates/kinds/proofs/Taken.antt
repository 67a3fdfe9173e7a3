-- What a step of `Bits` says of its set, for a loop over the bits of a number.
use Rattle.std.proofs.Common.{◌≡◌, ℕ, ◌≢◌, true, [], ◌∷◌}
use Rattle.kinds.specs.declared.masks.Bits.{Bits}
use Rattle.kinds.specs.Masks.{has, members, LowestTaken}
use Rattle.kinds.proofs.Members.{members_taken, members_empty}

-- an item is the lowest number of the set, and goes out of it
pub taken : (old new : Bits) (t : ℕ) → members old.left ≡ t ∷ members new.left → LowestTaken old.left t new.left
taken old new t step = members_taken old.left t new.left old.fits new.fits step

-- at the end the set is empty
pub none_left : (old : Bits) → members old.left ≡ [] → (t : ℕ) → has old.left t ≢ true
none_left old step = members_empty old.left old.fits step
