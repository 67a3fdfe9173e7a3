-- The class of a byte.
use Rattle.std.specs.Prelude.{◌≡◌, ℕ, ◌+◌, ◌<◌, ◌≤◌, ◌≢◌}
use Rattle.notation.specs.Notation.{space, point}
use Rattle.notation.specs.declared.class.Relation.{Relation}
use Rattle.notation.specs.declared.class.Call.{Call}
use Rattle.notation.specs.declared.class.Class.{Class}

abbrev pub relation_letter : Relation → ℕ
relation_letter Relation.Equals = 101
relation_letter Relation.Apart = 100
relation_letter Relation.Same = 115

abbrev pub letter : Call → ℕ
letter Call.Declare = 118
letter Call.List = 108
letter Call.Value = 119
letter Call.Is = 107
letter (Call.Relate r) = relation_letter r

abbrev pub Classed : ℕ → Class → Type 0
Classed b (Class.Letter c) = b ≡ letter c
Classed b (Class.Digit d) = (d < 10) × (b ≡ 48 + d)
Classed b Class.Point = b ≡ point
Classed b Class.Space = b ≡ space
Classed b Class.Other = ((c : Call) → b ≢ letter c) × (48 ≤ b → b < 58 → ⊥) × (b ≢ point) × (b ≢ space)
