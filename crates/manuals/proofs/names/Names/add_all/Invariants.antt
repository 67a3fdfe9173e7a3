use Rattle.std.proofs.Common.{◌≡◌, List, ℕ, ◌++◌}
use Rattle.std.specs.Str.Iter.{split_whitespace_rest}
use Rattle.manuals.specs.Names.{spelled}
use Rattle.manuals.specs.Words.{FirstWords}
use Rattle.manuals.proofs.names.Names.add_all.Given as goal

abbrev pub invariant-loop-word : goal.invariant-loop-word
invariant-loop-word l =
    (l.self.most ≡ l.fn.self.most) ×
    ((words : List (List ℕ)) × FirstWords l.text words (split_whitespace_rest l.word-iterator) ×
    (spelled l.self.words.items ≡ spelled l.fn.self.words.items ++ words))
