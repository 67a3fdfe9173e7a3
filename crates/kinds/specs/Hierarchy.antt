-- A type hierarchy by its parts: how many types there are, for each type the set of those at or below it, and the set of leaves.
use Rattle.std.specs.Prelude.{◌≡◌, ℕ, ◌<◌, ◌≤◌, true, false, ◌&&◌, List, length, nat_lt, slice_index}
use Rattle.kinds.specs.Meaning.{Meaning}
use Rattle.kinds.specs.Masks.{has}

-- c is in the set of type t
abbrev pub Under : List ℕ → ℕ → ℕ → Type 0
Under below c t = has (slice_index below t) c ≡ true

-- what is in the set of a type is a type
abbrev pub AllTypes : List ℕ → Type 0
AllTypes below = (c t : ℕ) → Under below c t → c < length below

-- what the parts say: the types are the numbers below n, and 0 is the top
abbrev pub hierarchy : ℕ → List ℕ → ℕ → Meaning
hierarchy n below leaves =
    record { value = λ v. nat_lt v n; top = 0; below = λ v w. nat_lt w n && has (slice_index below w) v; leaf = λ v. has leaves v }

-- c is in the sets of both types
abbrev pub Common : List ℕ → ℕ → ℕ → ℕ → Type 0
Common below a b c = Under below c a × Under below c b

-- d is the one with the lowest number of those
abbrev pub Lowest : List ℕ → ℕ → ℕ → ℕ → Type 0
Lowest below a b d = Common below a b d × ((c : ℕ) → Common below a b c → d ≤ c)

-- every common type of the two is at or below the one with the lowest number
abbrev pub UnderLowest : List ℕ → ℕ → ℕ → Type 0
UnderLowest below a b = (d : ℕ) → Lowest below a b d → (c : ℕ) → Common below a b c → Under below c d

-- some common type of the two is not
abbrev pub Parted : List ℕ → ℕ → ℕ → Type 0
Parted below a b = (d : ℕ) × Lowest below a b d × ((c : ℕ) × Common below a b c × (Under below c d → ⊥))

-- a type that is marked and is 0 or not at or below it, or is at or below a marked one and is not
pub data Astray (n : ℕ) (below : List ℕ) (marks : ℕ) (t : ℕ) : Type 0 where
  at_top : has marks t ≡ true → t ≡ 0 → Astray n below marks t
  outside : has marks t ≡ true → (Under below t 0 → ⊥) → Astray n below marks t
  bare : {u : ℕ} → u < n → has marks u ≡ true → Under below t u → has marks t ≡ false → Astray n below marks t

-- what holds of the parts of every hierarchy
pub record Sound (n : ℕ) (below : List ℕ) (leaves : ℕ) : Type 0 where
  -- there is at least one type, and there are at most 64
  pub some : 1 ≤ n
  pub few : n ≤ 64
  -- each type is at or below itself, and what is at or below a type is a type with no lower number
  pub same : (t : ℕ) → t < n → Under below t t
  pub types : (c t : ℕ) → t < n → Under below c t → c < n
  pub numbered : (c t : ℕ) → t < n → Under below c t → t ≤ c
  -- the order is transitive, and every type is at or below 0
  pub trans : (u v w : ℕ) → w < n → Under below u v → Under below v w → Under below u w
  pub top : (c : ℕ) → c < n → Under below c 0
  -- every common type of two is at or below the one with the lowest number
  pub meets : (a b : ℕ) → a < n → b < n → UnderLowest below a b
  -- leaves are types other than 0, with all types below them
  pub leaf_type : (v : ℕ) → has leaves v ≡ true → v < n
  pub leaf_low : (v : ℕ) → has leaves v ≡ true → 0 < v
  pub leaf_below : (v w : ℕ) → has leaves w ≡ true → Under below v w → has leaves v ≡ true
