use Rattle.std.proofs.Common.{◌≡◌, None, sym, ap, ◌∙◌, subst, rules}
use Rattle.notation.specs.Notation.{Writes}
use Rattle.notation.specs.Readings.{text, related, ended}
use Rattle.notation.specs.Views.{operand_reading}
use Rattle.notation.proofs.Stating.{end_says, end_silent, early_end_silent}
use Rattle.notation.proofs.state.Operand.ended.Goals as goal

pub returns-in_err-term : goal.returns-in_err-term
returns-in_err-term c = rw c.from_residual.ensures (early_end_silent c.args.self c.in_err-term.ensures.value)

pub returns-in-Value : goal.returns-in-Value
returns-in-Value c =
    let term = c.in_ok-term.term in
    end_says c.args.self term c.in_ok-term.ensures.value _ (ap (λ p. ended p term) (sym c.in_ok-term.ensures.place ∙ c.in-Value.is))

pub returns-in-Right : goal.returns-in-Right
returns-in-Right c =
    let term = c.in_ok-term.term in
    subst (λ said. Writes said (text (operand_reading c.args.self))) (sym c.between.ensures)
    (end_says c.args.self term c.in_ok-term.ensures.value (related c.in-Right.relation c.in-Right.left term) (ap (λ p. ended p term) (sym c.in_ok-term.ensures.place ∙ c.in-Right.is)))

pub returns-in-Is : goal.returns-in-Is
returns-in-Is c =
    let none : ended c.args.self.place c.in_ok-term.term ≡ None = search (rules, c.in_ok-term.ensures.place) in
    end_silent c.args.self c.in_ok-term.term c.in_ok-term.ensures.value none
