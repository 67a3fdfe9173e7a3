-- Names by their numbers.
use Rattle.std.specs.Prelude.{◌≡◌, ℕ, ◌<◌, ◌≤◌, List, ◌++◌, length, map, string_bytes, String, ⊤}
use Rattle.std.specs.List.{HoldsAt}
use Rattle.manuals.specs.Words.{AreWords}
use Rattle.std.specs.declared.alloc.Global.{Global}
use Rattle.manuals.specs.declared.fault.Mistake.{Mistake}
use Rattle.manuals.specs.declared.fault.Mistake.TheVariants.{Memory, Repeated, TooMany}

-- the words as they are spelled
abbrev pub spelled : List (String Global) → List (List ℕ)
spelled words = map string_bytes words

-- why a name is not added to words of which there can be so many: one of them is spelled so, there are as many already, or memory is out
abbrev pub Refuses : List (String Global) → ℕ → List ℕ → Mistake → Type 0
Refuses words most name Memory = ⊤
Refuses words most name (Repeated n) = (string_bytes n ≡ name) × ((i : ℕ) × (i < length words) × HoldsAt (λ w. string_bytes w ≡ name) words i)
Refuses words most name (TooMany n m) = (string_bytes n ≡ name) × (m ≡ most) × (most ≤ length words)
Refuses words most name _ = ⊥

-- the words of a text came to those that there were
abbrev pub AddsWords : List ℕ → List (List ℕ) → List (List ℕ) → Type 0
AddsWords text old new = (words : List (List ℕ)) × AreWords text words × (new ≡ old ++ words)

-- only words came to those that there were
abbrev pub AddsSome : List (List ℕ) → List (List ℕ) → Type 0
AddsSome old new = (words : List (List ℕ)) × (new ≡ old ++ words)
