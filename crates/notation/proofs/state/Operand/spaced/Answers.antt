use Rattle.std.proofs.Common.{◌≡◌, None, sym, ap, ◌∙◌, subst, rules}
use Rattle.notation.specs.Notation.{space}
use Rattle.notation.specs.Readings.{within_term, within_value, Follows}
use Rattle.notation.specs.Views.{operand_reading}
use Rattle.notation.specs.declared.state.Place.{Place}
use Rattle.notation.proofs.Machine.{next}
use Rattle.notation.proofs.Stating.{longer, space_follows, space_stops, early_space_stops}
use Rattle.notation.proofs.state.Operand.spaced.Goals as goal

pub returns-in_err-term : goal.returns-in_err-term
returns-in_err-term c = rw c.from_residual.ensures (early_space_stops c.args.self.now c.in_err-term.ensures.value)

pub begun-requires : goal.begun-requires
begun-requires c =
    let o = c.args.self.now in
    let term = c.in_ok-term.term in
    let after = within_term (Place.Right c.in-Left.relation term) None None in
    let follows = space_follows o term c.in_ok-term.ensures.value after (ap (λ p. next p term) (sym c.in_ok-term.ensures.place ∙ c.in-Left.is)) in
    record { ranged = follows.1; short = longer (operand_reading o) after space follows c.requires }

pub returns-in-Left : goal.returns-in-Left
returns-in-Left c =
    let term = c.in_ok-term.term in
    subst (Follows (operand_reading c.args.self.now) space) (sym c.begun.ensures)
    (space_follows c.args.self.now term c.in_ok-term.ensures.value (within_term (Place.Right c.in-Left.relation term) None None) (ap (λ p. next p term) (sym c.in_ok-term.ensures.place ∙ c.in-Left.is)))

pub returns-in-Is : goal.returns-in-Is
returns-in-Is c =
    let term = c.in_ok-term.term in
    space_follows c.args.self.now term c.in_ok-term.ensures.value (within_value term None) (ap (λ p. next p term) (sym c.in_ok-term.ensures.place ∙ c.in-Is.is))

pub returns-in-Value : goal.returns-in-Value
returns-in-Value c =
    let none : next c.args.self.now.place c.in_ok-term.term ≡ None = search (rules, c.in_ok-term.ensures.place) in
    space_stops c.args.self.now c.in_ok-term.term c.in_ok-term.ensures.value none
