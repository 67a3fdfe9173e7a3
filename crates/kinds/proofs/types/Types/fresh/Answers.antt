use Rattle.std.proofs.Common.{◌≡◌, ℕ, ◌^◌, ◌<◌, List, [], length, map, sym, refl, subst, arith}
use Rattle.std.specs.List.{range_with_len}
use Rattle.std.proofs.lemmas.Bool.{both_ways}
use Rattle.kinds.specs.Hierarchy.{Under, AllTypes, Sound, hierarchy}
use Rattle.kinds.specs.Masks.{has}
use Rattle.kinds.specs.Types.{Up, AllUpward, Fault, NoneHas, Described}
use Rattle.kinds.specs.Types.Up.{stay, climb}
use Rattle.kinds.specs.Types.Fault.{on_top, on_none, missing}
use Rattle.kinds.specs.BitSets.{has_none}
use Rattle.kinds.proofs.Climbing.{single_own, single_only, all_types}
use Rattle.kinds.proofs.Filling.{sound, described}
use Rattle.kinds.proofs.types.Types.fresh.Goals as goal

abbrev one : List ℕ
one = map (λ k. 2 ^ k) (range_with_len 0 1)

up : AllUpward 1 []
up i h = absurd (omega arith)

only : (c t : ℕ) → Under one c t → Up [] c t
only c t u = subst (λ (x : ℕ). Up [] c x) (single_only 1 c t u) stay

all : (c t : ℕ) → t < 1 → Up [] c t → Under one c t
all c t h stay = single_own 1 t h
all c t h (climb m u) = elim m [ ]

right : NoneHas (Fault 1 [] 0)
right t (on_top m) = both_ways (has 0 0) (has_none 0) m
right t (on_none h m) = both_ways (has 0 t) (has_none t) m
right t (missing {u = u} h m v e) = both_ways (has 0 u) (has_none u) m

types : AllTypes one
types = all_types up one refl only

sound_one : Sound (length one) one 0
sound_one = sound 1 [] one (omega arith) up (λ c t h. only c t) all (omega arith) (λ t h k. absurd (omega arith)) 0 (λ x y h k. absurd (omega arith)) right

described_one : Described 1 [] 0 (hierarchy (length one) one 0)
described_one = described 1 [] one (omega arith) up (λ c t h. only c t) all (omega arith) (λ t h k. absurd (omega arith)) 0 (λ x y h k. absurd (omega arith)) right

pub invariant_of-result : goal.invariant_of-result
invariant_of-result c =
    let e : c.singles.result.items ≡ one = c.singles.ensures in
    record { some = subst (λ (b : List ℕ). 0 < length b) (sym e) (omega arith); types = subst (λ (b : List ℕ). AllTypes b) (sym e) types }

pub invariant_of-result-2 : goal.invariant_of-result-2
invariant_of-result-2 c =
    let e : c.singles.result.items ≡ one = c.singles.ensures in
    record { sound = ∣ subst (λ (b : List ℕ). Sound (length b) b 0) (sym e) sound_one ∣₁ }

pub returns : goal.returns
returns c =
    let e : c.singles.result.items ≡ one = c.singles.ensures in
    subst (λ (b : List ℕ). Described 1 [] 0 (hierarchy (length b) b 0)) (sym e) described_one
