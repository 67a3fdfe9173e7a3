-- The meet of two values and of a list of values.
use Rattle.std.specs.Prelude.{◌≡◌, ℕ, List, Option, MatchOption}
use mathlib.Core.List.{Memᴰ}
use Rattle.kinds.specs.Meaning.{Meaning, Both, Greatest, BelowAll, GreatestOfAll}

-- the greatest value at or below both, or none exactly when no value is
abbrev pub MeetOfTwo : Meaning → ℕ → ℕ → Option ℕ → Type 0
MeetOfTwo m a b r = MatchOption r ((c : ℕ) → Both m a b c → ⊥) (λ v. Greatest m a b v)

-- no value is at or below all
abbrev pub Apart : Meaning → List ℕ → Type 0
Apart m vs = (v : ℕ) → BelowAll m vs v → ⊥

-- the greatest value at or below all, or none exactly when no value is
abbrev pub MeetOfAll : Meaning → List ℕ → Option ℕ → Type 0
MeetOfAll m vs r = MatchOption r (Apart m vs) (λ v. GreatestOfAll m vs v)

-- each value of the first stands in the second
abbrev pub Among : List ℕ → List ℕ → Type 0
Among vs ws = (w : ℕ) → Memᴰ w vs → Memᴰ w ws

-- whatever the order and the repetitions
abbrev pub SameMembers : List ℕ → List ℕ → Type 0
SameMembers vs ws = Among vs ws × Among ws vs

-- every list with the same members has the meet r and no other
abbrev pub MeetOfMembers : Meaning → List ℕ → Option ℕ → Type 0
MeetOfMembers m vs r = (ws : List ℕ) → SameMembers vs ws → MeetOfAll m ws r × ((s : Option ℕ) → MeetOfAll m ws s → s ≡ r)
