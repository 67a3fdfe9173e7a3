-- The term that a caller's data write.
use Rattle.features.specs.Terms as features
use Rattle.terms.specs.declared.lent.Term.{Term}

abbrev pub term_of : Term → features.Term
term_of t = record { var = t.var; path = t.path.now }
