-- The first of some things that has a name.
use Rattle.std.specs.Prelude.{◌≡◌, ℕ, ◌<◌, List, length, Option, MatchOption}
use Rattle.std.specs.List.{HoldsAt, AllWithin}

-- none of the first n has this name
abbrev pub NoneNamed : {T : Type 0} → (T → List ℕ) → List T → List ℕ → ℕ → Type 0
NoneNamed name_of items name n = AllWithin (λ x. name_of x ≡ name → ⊥) items 0 n

-- the position of the first of this name, or none where there is none
abbrev pub FirstNamed : {T : Type 0} → (T → List ℕ) → List T → List ℕ → Option ℕ → Type 0
FirstNamed name_of items name r =
    MatchOption r (NoneNamed name_of items name (length items))
    (λ i. (i < length items) × HoldsAt (λ x. name_of x ≡ name) items i × NoneNamed name_of items name i)
