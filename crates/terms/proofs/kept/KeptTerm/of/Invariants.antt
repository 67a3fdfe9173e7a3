use Rattle.std.proofs.Common.{◌≡◌, take}
use Rattle.terms.proofs.kept.KeptTerm.of.Given as goal

abbrev pub invariant-loop-attribute : goal.invariant-loop-attribute
invariant-loop-attribute g l = l.kept ≡ record { var = l.fn.term.var; path = take l.attribute-index l.attribute-items }
