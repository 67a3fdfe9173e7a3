-- What is printed of a refusal, by the session or before its call.
use Rattle.std.specs.Prelude.{ℕ, List}
use Rattle.answers.specs.Refusals as refusals
use Rattle.notation.specs.Reads as reads
use Rattle.printing.specs.Texts.{named, malformed_named, refused_line}
use Rattle.printing.specs.declared.outcome.Ground.{Ground}
use Rattle.printing.specs.declared.outcome.Ground.TheVariants.{Call, Line}

abbrev pub number : Ground → ℕ
number (Call r) = refusals.number r
number (Line why) = reads.number why

abbrev pub names : List ℕ → Ground → List ℕ
names trail (Call r) = named trail r
names trail (Line why) = malformed_named why

-- a trail's attributes stand at the start of a list
abbrev pub ground_text : List ℕ → Ground → List ℕ
ground_text trail g = refused_line (number g) (names trail g)
