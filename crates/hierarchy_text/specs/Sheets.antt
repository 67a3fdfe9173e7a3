-- What is written of a hierarchy.
use Rattle.std.specs.Prelude.{◌≡◌, ℕ, ◌<◌, ◌≤◌, true, List}
use Rattle.std.specs.List.{HoldsAt}
use Rattle.kinds.specs.declared.types.links.Link.{Link}
use Rattle.kinds.specs.Masks.{has}
use Rattle.kinds.specs.Types.{Linked, AllUpward, AllLinked, Up}
use Rattle.hierarchy_text.specs.declared.entry.Entry.{Entry}

-- there are one to 64 types
abbrev pub Few : ℕ → Type 0
Few n = (1 ≤ n) × (n ≤ 64)

-- every type but the first has a supertype, and all supertypes stand above
abbrev pub Written : ℕ → List Link → Type 0
Written n links = AllUpward n links × AllLinked n links

-- the marks are those of the first n types
abbrev pub Marked : List Entry → ℕ → ℕ → Type 0
Marked entries n marks =
    ((t : ℕ) → has marks t ≡ true → t < n) × ((t : ℕ) → t < n → HoldsAt (λ e. has marks t ≡ e.leaf) entries t)

-- the set has exactly the types right above t
abbrev pub Supertypes : List Link → ℕ → ℕ → Type 0
Supertypes links t set = ((x : ℕ) → has set x ≡ true → Linked links t x) × ((x : ℕ) → Linked links t x → has set x ≡ true)

-- the set has exactly the types at or above t, where t is one of n types
abbrev pub Above : ℕ → List Link → ℕ → ℕ → Type 0
Above n links t set =
    ((x : ℕ) → has set x ≡ true → (t < n) × Up links t x) × ((x : ℕ) → t < n → Up links t x → has set x ≡ true)
