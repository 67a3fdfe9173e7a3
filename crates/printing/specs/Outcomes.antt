-- What printing answers.
use Rattle.std.specs.Prelude.{◌≡◌, ℕ, List, Ok, Err, Result}
use Rattle.std.proofs.Math.Option.{Option, some, none}
use Rattle.answers.specs.Answers.{Answer}
use Rattle.answers.specs.declared.refusal.Refusal.{Refusal}
use Rattle.listings.specs.Buffers.{Fitted}
use Rattle.printing.specs.Texts.{answer_text, refusal_in}
use Rattle.printing.specs.declared.outcome.Ground.{Ground}
use Rattle.printing.specs.declared.outcome.RefusedLine.{RefusedLine}

-- how many bytes were printed
abbrev pub size : Result ℕ RefusedLine → ℕ
size (Ok n) = n
size (Err e) = e.printed

abbrev pub ground_of : Result ℕ RefusedLine → Option Ground
ground_of (Ok n) = none
ground_of (Err e) = some e.cause

abbrev pub by_call : Option Refusal → Option Ground
by_call none = none
by_call (some r) = some (Ground.Call r)

-- the text stands at the front of the buffer, and what follows it is as it was; the outcome says how long it is, and why it is a refusal, where it is one
pub record Printed (text : List ℕ) (cause : Option Ground) (before after : List ℕ) (r : Result ℕ RefusedLine) : Type 0 where
  pub bytes : Fitted text before after (size r)
  pub why : ground_of r ≡ cause

-- an answer was printed
abbrev pub AnswerPrinted : Answer → List ℕ → List ℕ → Result ℕ RefusedLine → Type 0
AnswerPrinted a before after r = Printed (answer_text a) (by_call (refusal_in a)) before after r
