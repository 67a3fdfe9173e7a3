-- The numbers of sides and of refusals, and which refusals are clashes.
use Rattle.std.specs.Prelude.{ℕ, Ok, Err, Result}
use Rattle.answers.specs.declared.refusal.Side.{Side}
use Rattle.answers.specs.declared.refusal.Side.TheVariants.{Left, Right}
use Rattle.answers.specs.declared.refusal.Refusal.{Refusal}
use Rattle.answers.specs.declared.refusal.Refusal.TheVariants.{Undeclared, LongTerm, NoAttribute, NoSuchValue, ShortTrail, ApartsFull, ValueClash, LeafClash, ApartClash, VariablesFull, NodesFull, ShortBuffer}

abbrev pub side_number : Side → ℕ
side_number Left = 0
side_number Right = 1

abbrev pub number : Refusal → ℕ
number (Undeclared side) = 1
number (LongTerm side) = 2
number (NoAttribute side position) = 3
number NoSuchValue = 4
number ShortTrail = 5
number ApartsFull = 6
number (ValueClash var count) = 7
number (LeafClash var count) = 8
number (ApartClash place) = 9
number VariablesFull = 10
number NodesFull = 11
number (ShortBuffer size) = 12

-- the statements contradict one another
abbrev pub Clash : Refusal → Type 0
Clash (Undeclared side) = ⊥
Clash (LongTerm side) = ⊥
Clash (NoAttribute side position) = ⊥
Clash NoSuchValue = ⊥
Clash ShortTrail = ⊥
Clash ApartsFull = ⊥
Clash (ValueClash var count) = Unit {0}
Clash (LeafClash var count) = Unit {0}
Clash (ApartClash place) = Unit {0}
Clash VariablesFull = ⊥
Clash NodesFull = ⊥
Clash (ShortBuffer size) = ⊥

abbrev pub Clashes : Result (Unit {0}) Refusal → Type 0
Clashes (Ok u) = ⊥
Clashes (Err r) = Clash r
