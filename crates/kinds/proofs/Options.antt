-- What follows from a clause on an option, whichever variant it is.
use Rattle.std.proofs.Common.{Some, None, MatchOption, Option}

pub cases_then : {A : Type 0} (r : Option A) {P Q : Type 0} {S T : A → Type 0} → (P → Q) → ((x : A) → S x → T x)
    → MatchOption r P S → MatchOption r Q T
cases_then None f g h = f h
cases_then (Some x) f g h = g x h
