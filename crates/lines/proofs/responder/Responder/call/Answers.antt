use Rattle.std.proofs.Common.{ℕ, List, refl, ap, ◌∙◌, ap₂, arith}
use Rattle.std.proofs.lemmas.List.{with_items_is}
use Rattle.features.specs.Terms as terms
use Rattle.answers.specs.Answers as answers
use Rattle.terms.specs.Terms.{term_of}
use Rattle.printing.proofs.Bounds.{declares_fits, states_fits, says_fits, gives_fits, lists_fits}
use Rattle.lines.proofs.Calling.{called}
use Rattle.lines.proofs.responder.Responder.call.Goals as goal

pub print-requires : goal.print-requires
print-requires c = omega (arith, declares_fits c.declare.result)

pub print-requires-in-Equals : goal.print-requires-in-Equals
print-requires-in-Equals c = omega (arith, states_fits c.equals-answer.result c.deref.result.now (omega (arith, c.args.self.now.trail_room, c.deref.ensures.len)))

pub print-requires-in-Is : goal.print-requires-in-Is
print-requires-in-Is c = omega (arith, states_fits c.is-answer.result c.deref-in-Is.result.now (omega (arith, c.args.self.now.trail_room, c.deref-in-Is.ensures.len)))

pub print-requires-in-Apart : goal.print-requires-in-Apart
print-requires-in-Apart c = omega (arith, states_fits c.apart-answer.result c.deref-in-Apart.result.now (omega (arith, c.args.self.now.trail_room, c.deref-in-Apart.ensures.len)))

pub print-requires-in-Same : goal.print-requires-in-Same
print-requires-in-Same c = omega (arith, says_fits c.same.result)

pub print-requires-in-Value : goal.print-requires-in-Value
print-requires-in-Value c = omega (arith, gives_fits c.value.result)

pub print_listing-requires : goal.print_listing-requires
print_listing-requires c =
    let fits = lists_fits c.list-answer.result c.deref-in-List.result.now (omega (arith, c.args.self.now.listing_room, c.deref-in-List.ensures.len)) in
    omega (arith, fits)

pub returns-in-Declare : goal.returns-in-Declare
returns-in-Declare c =
    called c.args.self.now _ c.args.command.now c.in-Declare.is answers.declare (answers.declares c.declare.result) (answers.declares c.declare.result)
    c.args.out.now c.print.new.out c.print.result refl refl c.declare.ensures.step c.print.ensures

pub returns-in-Equals : goal.returns-in-Equals
returns-in-Equals c =
    let s = c.args.self.now in
    let left : List ℕ = c.equals-answer.new.trail in
    let shown = c.deref.ensures.value ∙ with_items_is s.trail left (omega (arith, c.equals-answer.auto.trail, c.deref_mut.ensures.len)) in
    let made : answers.Call = answers.state (terms.equals (term_of c.term.result) (term_of c.term-in-Equals.result)) c.deref_mut.result.now in
    called s _ c.args.command.now c.in-Equals.is made (answers.states c.equals-answer.result left) (answers.states c.equals-answer.result c.deref.result.now)
    c.args.out.now c.print-in-Equals.new.out c.print-in-Equals.result
    (ap₂ answers.state (ap₂ terms.equals c.term.ensures.value c.term-in-Equals.ensures.value) c.deref_mut.ensures.value) (ap (answers.states c.equals-answer.result) shown) c.equals-answer.ensures.step c.print-in-Equals.ensures

pub returns-in-Is : goal.returns-in-Is
returns-in-Is c =
    let s = c.args.self.now in
    let left : List ℕ = c.is-answer.new.trail in
    let shown = c.deref-in-Is.ensures.value ∙ with_items_is s.trail left (omega (arith, c.is-answer.auto.trail, c.deref_mut-in-Is.ensures.len)) in
    let made : answers.Call = answers.state (terms.is (term_of c.term-in-Is.result) c.in-Is.value) c.deref_mut-in-Is.result.now in
    called s _ c.args.command.now c.in-Is.is made (answers.states c.is-answer.result left) (answers.states c.is-answer.result c.deref-in-Is.result.now)
    c.args.out.now c.print-in-Is.new.out c.print-in-Is.result
    (ap₂ answers.state (ap (λ (p : terms.Term). terms.is p c.in-Is.value) c.term-in-Is.ensures.value) c.deref_mut-in-Is.ensures.value) (ap (answers.states c.is-answer.result) shown) c.is-answer.ensures.step c.print-in-Is.ensures

pub returns-in-Apart : goal.returns-in-Apart
returns-in-Apart c =
    let s = c.args.self.now in
    let left : List ℕ = c.apart-answer.new.trail in
    let shown = c.deref-in-Apart.ensures.value ∙ with_items_is s.trail left (omega (arith, c.apart-answer.auto.trail, c.deref_mut-in-Apart.ensures.len)) in
    let made : answers.Call = answers.state (terms.apart (term_of c.term-in-Apart.result) (term_of c.term-in-Apart-2.result)) c.deref_mut-in-Apart.result.now in
    called s _ c.args.command.now c.in-Apart.is made (answers.states c.apart-answer.result left) (answers.states c.apart-answer.result c.deref-in-Apart.result.now)
    c.args.out.now c.print-in-Apart.new.out c.print-in-Apart.result
    (ap₂ answers.state (ap₂ terms.apart c.term-in-Apart.ensures.value c.term-in-Apart-2.ensures.value) c.deref_mut-in-Apart.ensures.value) (ap (answers.states c.apart-answer.result) shown) c.apart-answer.ensures.step c.print-in-Apart.ensures

pub returns-in-Same : goal.returns-in-Same
returns-in-Same c =
    called c.args.self.now _ c.args.command.now c.in-Same.is (answers.ask_same (term_of c.term-in-Same.result) (term_of c.term-in-Same-2.result))
    (answers.says c.same.result) (answers.says c.same.result) c.args.out.now c.print-in-Same.new.out c.print-in-Same.result
    (ap₂ answers.ask_same c.term-in-Same.ensures.value c.term-in-Same-2.ensures.value) refl c.same.ensures c.print-in-Same.ensures

pub returns-in-Value : goal.returns-in-Value
returns-in-Value c =
    called c.args.self.now _ c.args.command.now c.in-Value.is (answers.ask_value (term_of c.term-in-Value.result))
    (answers.gives c.value.result) (answers.gives c.value.result) c.args.out.now c.print-in-Value.new.out c.print-in-Value.result
    (ap answers.ask_value c.term-in-Value.ensures.value) refl c.value.ensures c.print-in-Value.ensures

pub returns-in-List : goal.returns-in-List
returns-in-List c =
    let s = c.args.self.now in
    let left : List ℕ = c.list-answer.new.out in
    let shown = c.deref-in-List.ensures.value ∙ with_items_is s.listing left (omega (arith, c.list-answer.auto.out, c.deref_mut-in-List.ensures.len)) in
    called s _ c.args.command.now c.in-List.is (answers.list c.deref_mut-in-List.result.now) (answers.lists c.list-answer.result left)
    (answers.lists c.list-answer.result c.deref-in-List.result.now) c.args.out.now c.print_listing.new.out c.print_listing.result
    (ap answers.list c.deref_mut-in-List.ensures.value) (ap (answers.lists c.list-answer.result) shown) c.list-answer.ensures.step c.print_listing.ensures
