use Rattle.std.proofs.Common.{sym, refl, ◌∙◌, subst, arith}
use Rattle.std.proofs.lemmas.List.{take_all}
use Rattle.std.proofs.lemmas.Result.{err_from_is_err_and}
use Rattle.notation.specs.Reads.{Reads}
use Rattle.notation.specs.Views.{reading_of}
use Rattle.notation.proofs.Stating.{state_ranged, read_stops, read_ends}
use Rattle.notation.proofs.read.Goals as goal

pub returns-in_err-ok_or : goal.returns-in_err-ok_or
returns-in_err-ok_or c =
    let line = c.args.line.now in
    let state = c.loop-i.state in
    let e = err_from_is_err_and c.from_residual.result c.from_residual.ensures.1 in
    rw (e.1, e.2) (read_stops line c.loop-i.i (reading_of state) _ c.in_err-ok_or.field-0.0 c.step.result (λ _. reading_of c.step.new.self) (omega (arith, c.if-line-gt-LONGEST.false)) c.loop-i-test.true c.loop-i.invariant (state_ranged state) refl c.step.ensures c.in_err-ok_or.ensures.value)

pub returns : goal.returns
returns c =
    let line = c.args.line.now in
    let state = c.loop-i.state in
    subst (Reads line) (sym c.ok_or-2.ensures.value)
    (read_ends line (reading_of state) c.command.result (omega (arith, c.if-line-gt-LONGEST.false)) (c.loop-i.invariant ∙ take_all c.loop-i.i line c.loop-i-test.false) (state_ranged state) c.command.ensures)
