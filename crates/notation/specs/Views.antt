-- What the program's values say.
use Rattle.std.specs.Prelude.{ℕ, [], ◌∷◌, ◌++◌, Option, MatchOption}
use Rattle.notation.specs.Notation
use Rattle.notation.specs.Readings.{Reading, start, named, within_term, within_value, text, Follows}
use Rattle.notation.specs.declared.command.Command.{Command}
use Rattle.notation.specs.declared.state.Operand.{Operand}
use Rattle.notation.specs.declared.state.Assignment.{Assignment}
use Rattle.notation.specs.declared.state.State.{State}

abbrev pub command_of : Command → Notation.Command
command_of Command.Declare = Notation.declare
command_of (Command.Equals p q) = Notation.equals p q
command_of (Command.Is p v) = Notation.is p v
command_of (Command.Apart p q) = Notation.apart p q
command_of (Command.Same p q) = Notation.same p q
command_of (Command.Value p) = Notation.value p
command_of Command.List = Notation.list

abbrev pub operand_reading : Operand → Reading
operand_reading o = within_term o.place o.stem o.number

abbrev pub assignment_reading : Assignment → Reading
assignment_reading a = within_value a.term a.number

abbrev pub reading_of : State → Reading
reading_of State.Start = start
reading_of (State.Named c) = named c
reading_of (State.Term o) = operand_reading o
reading_of (State.Number a) = assignment_reading a

-- one byte more was read, and what came of it reads so; or nothing came of it, where no line begins so
abbrev pub Steps : {A : Type 0} → Reading → ℕ → Option A → (A → Reading) → Type 0
Steps s b r after = MatchOption r (Notation.Good (text s ++ (b ∷ [])) → ⊥) (λ x. Follows s b (after x))

-- the command of a line that ends here, or none where the text is of no line
abbrev pub Says : Reading → Option Command → Type 0
Says s r = MatchOption r ((c : Notation.Command) → Notation.Writes c (text s) → ⊥) (λ c. Notation.Writes (command_of c) (text s))
