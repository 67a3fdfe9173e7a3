use Rattle.sentences.proofs.matrix.Matrix.+write_mention.Given as goal

abbrev pub decreases-write_mention : goal.decreases-write_mention
decreases-write_mention g l = l.depth
