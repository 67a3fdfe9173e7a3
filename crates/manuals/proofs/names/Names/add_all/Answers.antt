use Rattle.std.proofs.Common.{◌∷◌, ◌++◌, [], append_assoc}
use Rattle.std.specs.Str.Iter.{split_whitespace_rest}
use Rattle.manuals.proofs.WordLemmas.{FirstWords-more}
use Rattle.manuals.proofs.names.Names.add_all.Goals as goal

pub loop-word-preserved : goal.loop-word-preserved
loop-word-preserved c =
    let words = c.loop-word.invariant.1.0 in
    let word = c.in-Some.word.now in (
      cc,
      (
        words ++ word ∷ [],
        FirstWords-more c.args.text.now words (split_whitespace_rest c.loop-word.word-iterator) word (split_whitespace_rest c.next.new.self)
            c.loop-word.invariant.1.1 c.in-Some.ensures.steps,
        rw (← append_assoc) (cc (c.in_ok-add.ensures.ok)),
      ),
    )
