-- Filling a type hierarchy: n types, numbered from 0, links that lead from a type up to another, and a set of leaf marks.
use Rattle.std.specs.Prelude.{◌≡◌, ℕ, ◌<◌, ◌≤◌, true, false, ◌↔◌, List, length, Ok, Err, Result, MatchResult, slice_index_or}
use mathlib.Core.List.{Memᴰ}
use Rattle.kinds.specs.declared.types.Types.{Types}
use Rattle.kinds.specs.declared.types.links.Link.{Link}
use Rattle.kinds.specs.declared.types.misfit.Misfit.{Misfit}
use Rattle.kinds.specs.declared.types.misfit.Misfit.TheVariants.{WrongCount, WrongLink, Unlinked, NoGreatest, WrongMark}
use Rattle.kinds.specs.Hierarchy.{hierarchy}
use Rattle.kinds.specs.Masks.{has}
use Rattle.kinds.specs.Orders.{size, sets}
use Rattle.kinds.specs.Meaning.{Meaning}

-- the list has a link from type a up to type b
abbrev pub Linked : List Link → ℕ → ℕ → Type 0
Linked links a b = Memᴰ {A = Link} (record { subtype = a; supertype = b }) links

-- a is at or below c: links lead up from a to c, in zero or more steps
pub data Up (links : List Link) : ℕ → ℕ → Type 0 where
  stay : {a : ℕ} → Up links a a
  climb : {a b c : ℕ} → Linked links a b → Up links b c → Up links a c

-- there is a type, and there are at most 64
abbrev pub Counted : ℕ → Type 0
Counted n = (1 ≤ n) × (n ≤ 64)

-- a link names two types, and its supertype has the lower number
abbrev pub Upward : ℕ → Link → Type 0
Upward n l = (l.subtype < n) × (l.supertype < n) × (l.supertype < l.subtype)

-- the link at a position
abbrev pub link_at : List Link → ℕ → Link
link_at links i = slice_index_or links i (record { subtype = 0; supertype = 0 })

abbrev pub AllUpward : ℕ → List Link → Type 0
AllUpward n links = (i : ℕ) → i < length links → Upward n (link_at links i)

abbrev pub NotUpward : ℕ → List Link → ℕ → Type 0
NotUpward n links i = (i < length links) × (Upward n (link_at links i) → ⊥)

-- every type other than 0 has a link up
abbrev pub AllLinked : ℕ → List Link → Type 0
AllLinked n links = (t : ℕ) → 0 < t → t < n → (s : ℕ) × Linked links t s

abbrev pub Orphan : ℕ → List Link → ℕ → Type 0
Orphan n links t = (0 < t) × (t < n) × ((s : ℕ) → Linked links t s → ⊥)

-- c is at or below both types
abbrev pub Shared : List Link → ℕ → ℕ → ℕ → Type 0
Shared links a b c = Up links c a × Up links c b

-- two types, the lower first, have common ones at or below them, and no greatest of these
abbrev pub Clash : ℕ → List Link → ℕ → ℕ → Type 0
Clash n links a b =
    (a < b) × (b < n) × ((c : ℕ) × Shared links a b c)
    × ((d : ℕ) → Shared links a b d → ((e : ℕ) → Shared links a b e → Up links e d) → ⊥)

-- a type at fault: its leaf mark stands on the top or on no type, or is missing below a marked type
pub data Fault (n : ℕ) (links : List Link) (marks : ℕ) : ℕ → Type 0 where
  on_top : has marks 0 ≡ true → Fault n links marks 0
  on_none : {t : ℕ} → n ≤ t → has marks t ≡ true → Fault n links marks t
  missing : {t u : ℕ} → u < n → has marks u ≡ true → Up links t u → has marks t ≡ false → Fault n links marks t

-- no number has the property; t is the least that has it
abbrev pub NoneHas : (ℕ → Type 0) → Type 0
NoneHas P = (t : ℕ) → P t → ⊥

abbrev pub Least : (ℕ → Type 0) → ℕ → Type 0
Least P t = P t × ((u : ℕ) → P u → t ≤ u)

-- the pair with the least first type, and then the least second, that has the property
abbrev pub LeastPair : (ℕ → ℕ → Type 0) → ℕ → ℕ → Type 0
LeastPair P a b = P a b × ((x y : ℕ) → P x y → (a ≤ x) × (x ≡ a → b ≤ y))

-- the ground of a refusal is the first that there is, in this order
pub data Refused (n : ℕ) (links : List Link) (marks : ℕ) : Misfit → Type 0 where
  no_count : (Counted n → ⊥) → Refused n links marks WrongCount
  no_link : {i : ℕ} → Counted n → Least (NotUpward n links) i → Refused n links marks (WrongLink i)
  orphaned : {t : ℕ} → Counted n → NoneHas (NotUpward n links) → Least (Orphan n links) t → Refused n links marks (Unlinked t)
  clashing : {a b : ℕ} → Counted n → NoneHas (NotUpward n links) → NoneHas (Orphan n links)
      → LeastPair (Clash n links) a b → Refused n links marks (NoGreatest a b)
  mismarked : {t : ℕ} → Counted n → NoneHas (NotUpward n links) → NoneHas (Orphan n links)
      → ((a b : ℕ) → Clash n links a b → ⊥) → Least (Fault n links marks) t → Refused n links marks (WrongMark t)

-- there is no ground to refuse
pub record Accepted (n : ℕ) (links : List Link) (marks : ℕ) : Type 0 where
  pub counted : Counted n
  pub upward : NoneHas (NotUpward n links)
  pub linked : NoneHas (Orphan n links)
  pub meeting : (a b : ℕ) → Clash n links a b → ⊥
  pub marked : NoneHas (Fault n links marks)

-- the meaning is the one that the count, the links and the marks describe
pub record Described (n : ℕ) (links : List Link) (marks : ℕ) (m : Meaning) : Type 0 where
  pub value : (v : ℕ) → (m.value v ≡ true) ↔ (v < n)
  pub top : m.top ≡ 0
  pub below : (v w : ℕ) → (m.below v w ≡ true) ↔ ((v < n) × (w < n) × Up links v w)
  pub leaf : (v : ℕ) → (m.leaf v ≡ true) ↔ ((v < n) × (has marks v ≡ true))

-- what a hierarchy means
abbrev pub meaning_of : Types → Meaning
meaning_of k = hierarchy (size k.order) (sets k.order) k.leaves

-- filling is accepted, and the hierarchy is then the one described, or refused, and the hierarchy is then as it was
abbrev pub Filled : ℕ → List Link → ℕ → Types → Result (Unit {0}) Misfit → Types → Type 0
Filled n links marks before r after =
    MatchResult r (λ _. Accepted n links marks × Described n links marks (meaning_of after))
    (λ e. Refused n links marks e × (after ≡ before))

-- the answer is settled: it is the ground that there is, or none, and what is described is the one meaning
pub record Settled (n : ℕ) (links : List Link) (marks : ℕ) (r : Result (Unit {0}) Misfit) (after : Types) : Type 0 where
  pub refused : (e : Misfit) → Refused n links marks e → r ≡ Err e
  pub accepted : Accepted n links marks → r ≡ Ok tt
  pub described : (m : Meaning) → Accepted n links marks → Described n links marks m → meaning_of after ≡ m

-- the number of each ground
abbrev pub number_of : Misfit → ℕ
number_of WrongCount = 23
number_of (WrongLink i) = 24
number_of (Unlinked t) = 25
number_of (NoGreatest a b) = 26
number_of (WrongMark t) = 27
