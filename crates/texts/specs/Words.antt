-- What a line says.
use Rattle.std.specs.Prelude.{ℕ, ◌==◌, List}
use Rattle.std.specs.List.{before_first}
use Rattle.std.specs.Str.{trim}

-- what stands before the first '#', without outer spaces
abbrev pub words_of : List ℕ → List ℕ
words_of line = trim (before_first (λ b. b == 35) line)
