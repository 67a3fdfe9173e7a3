-- A call that was made and its answer that was printed, as a line has them.
use Rattle.std.proofs.Common.{◌≡◌, ℕ, List, vec_items, Result, sym, ap, ◌∙◌, subst}
use Rattle.kinds.specs.Atoms.{atoms}
use Rattle.answers.specs.Answers.{Call, Answer}
use Rattle.answers.specs.Runs.{Step, asked}
use Rattle.notation.specs.Views.{command_of}
use Rattle.notation.specs.declared.command.Command.{Command}
use Rattle.printing.specs.Outcomes.{AnswerPrinted}
use Rattle.printing.specs.declared.outcome.RefusedLine.{RefusedLine}
use Rattle.session.specs.Sessions.{graph, kept}
use Rattle.lines.specs.Responses.{call_of, Called}
use Rattle.lines.specs.declared.responder.Responder.{Responder}

module _ (s t : Responder) (c : Command) {d : Command} (is : c ≡ d) (made : Call) (answer shown : Answer) (before after : List ℕ) (r : Result ℕ RefusedLine) where
  pub called : made ≡ call_of (vec_items s.trail) (vec_items s.listing) (command_of d) → shown ≡ answer
      → Step graph kept atoms s.session (asked made answer) t.session → AnswerPrinted shown before after r → Called s (command_of c) before after t r
  called e f step printed =
      let call = e ∙ sym (ap (λ (k : Command). call_of (vec_items s.trail) (vec_items s.listing) (command_of k)) is) in
      record {
        answer = answer;
        step = subst (λ (k : Call). Step graph kept atoms s.session (asked k answer) t.session) call step;
        printed = subst (λ (a : Answer). AnswerPrinted a before after r) f printed;
      }
