-- What a hierarchy that is written comes to.
use Rattle.std.specs.Prelude.{ℕ, ◌<◌, List, Result, MatchResult}
use Rattle.kinds.specs.declared.types.Types.{Types}
use Rattle.kinds.specs.declared.types.links.Link.{Link}
use Rattle.kinds.specs.declared.types.misfit.Misfit.{Misfit}
use Rattle.kinds.specs.declared.types.misfit.Misfit.TheVariants as misfit
use Rattle.kinds.specs.Types.{Accepted, Described, Refused, meaning_of}
use Rattle.hierarchy_text.specs.declared.judging.Objection.{Objection}
use Rattle.hierarchy_text.specs.declared.judging.Objection.TheVariants.{NoGreatest, WrongMark}

-- the ground to refuse a filling that an objection is
abbrev pub misfit_of : Objection → Misfit
misfit_of (NoGreatest a b) = misfit.NoGreatest a b
misfit_of (WrongMark t) = misfit.WrongMark t

-- what an objection names is a type
abbrev pub NamesTypes : ℕ → Objection → Type 0
NamesTypes n (NoGreatest a b) = (a < n) × (b < n)
NamesTypes n (WrongMark t) = t < n

-- the hierarchy is the one described, or it is refused on this ground
abbrev pub Judged : ℕ → List Link → ℕ → Result Types Objection → Type 0
Judged n links marks r =
    MatchResult r (λ types. Accepted n links marks × Described n links marks (meaning_of types))
    (λ o. Refused n links marks (misfit_of o) × NamesTypes n o)
