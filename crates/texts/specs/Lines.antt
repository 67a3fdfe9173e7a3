-- The lines of a text, one after another.
use Rattle.std.specs.Prelude.{◌≡◌, ℕ, ◌+◌, List, Option, IsSomeAnd, MatchOption, None}
use Rattle.std.specs.Borrow.{Bor}
use Rattle.std.specs.Str.Iter.{lines_steps}
use Rattle.texts.specs.declared.line.Line.{Line}
use Rattle.texts.specs.declared.line.Lines.{Lines}
use Rattle.texts.specs.Words.{words_of}

-- the next line of the text comes with the next number, and without its comment
abbrev pub GivesLine : Lines → Option Line → Lines → Type 0
GivesLine s r t =
    (o : Option (Bor (List ℕ))) × lines_steps s.left o t.left
    × MatchOption o (r ≡ None) (λ line. (t.before ≡ s.before + 1) × IsSomeAnd r (λ x. (x.number ≡ t.before) × (x.text.now ≡ words_of line.now)))
