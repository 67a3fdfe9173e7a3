-- What equations say to a session.
use Rattle.std.specs.Prelude.{◌+◌, Result}
use Rattle.kinds.specs.Atoms.{atoms}
use Rattle.features.specs.Terms as features
use Rattle.answers.specs.Answers.{state, states}
use Rattle.answers.specs.Runs.{Step, asked}
use Rattle.answers.specs.declared.refusal.Refusal.{Refusal}
use Rattle.session.specs.Sessions.{graph, kept}
use Rattle.manuals.specs.declared.place.Place.{Place}
use Rattle.manuals.specs.declared.equation.Equation.{Equation}
use Rattle.manuals.specs.declared.equation.Equation.TheVariants.{Equal, Valued}
use Rattle.sentences.specs.declared.stating.Stating.{Stating}

abbrev pub term_of : Place → features.Term
term_of place = record { var = place.word; path = place.path.items }

-- the statement that an equation makes: 0 is the top, so the atoms of values begin with 1
abbrev pub statement_of : Equation → features.Statement
statement_of (Equal left right) = features.equals (term_of left) (term_of right)
statement_of (Valued place value) = features.is (term_of place) (value + 1)

-- the same without a value: that its terms denote
abbrev pub shape_of : Equation → features.Statement
shape_of (Equal left right) = features.equals (term_of left) (term_of right)
shape_of (Valued place value) = features.equals (term_of place) (term_of place)

-- a session, found as the first and left as the second, was told a statement and gave the right answer
abbrev pub Told : Stating → features.Statement → Result (Unit {0}) Refusal → Stating → Type 0
Told before statement result after =
    Step graph kept atoms before.session (asked (state statement before.trail) (states result after.trail)) after.session
