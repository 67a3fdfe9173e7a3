-- What reading a line answers.
use Rattle.std.specs.Prelude.{ℕ, ◌<◌, ◌≤◌, List, length, take, Ok, Err, Result}
use Rattle.notation.specs.Notation
use Rattle.notation.specs.Views.{command_of}
use Rattle.notation.specs.declared.command.Command.{Command}
use Rattle.notation.specs.declared.malformed.Malformed.{Malformed}
use Rattle.notation.specs.declared.malformed.Malformed.TheVariants.{TooLong, Unfit}

abbrev pub number : Malformed → ℕ
number TooLong = 21
number (Unfit n) = 22

-- the longest beginning of the line with which some line of the notation begins has n bytes
pub record LongestGood (line : List ℕ) (n : ℕ) : Type 0 where
  pub within : n ≤ length line
  pub good : Notation.Good (take n line)
  pub longest : (k : ℕ) → n < k → k ≤ length line → Notation.Good (take k line) → ⊥

-- no command is written so
abbrev pub Unwritten : List ℕ → Type 0
Unwritten line = (c : Notation.Command) → Notation.Writes c line → ⊥

abbrev pub Reads : List ℕ → Result Command Malformed → Type 0
Reads line (Ok c) = (length line ≤ 120) × Notation.Writes (command_of c) line
Reads line (Err TooLong) = 120 < length line
Reads line (Err (Unfit n)) = (length line ≤ 120) × Unwritten line × LongestGood line n
