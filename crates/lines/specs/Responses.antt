-- What comes of one line.
use Rattle.std.specs.Prelude.{◌≡◌, ℕ, ◌<◌, ◌≤◌, List, length, Err, vec_items, Result}
use Rattle.std.proofs.Math.Option.{some}
use Rattle.kinds.specs.Atoms.{atoms}
use Rattle.features.specs.Terms as terms
use Rattle.answers.specs.Answers as answers
use Rattle.answers.specs.Runs.{Step, asked}
use Rattle.answers.specs.declared.refusal.Refusal.TheVariants.{ShortBuffer}
use Rattle.notation.specs.Notation.{Command, declare, equals, is, apart, same, value, list, Writes}
use Rattle.notation.specs.Reads.{Reads}
use Rattle.notation.specs.declared.malformed.Malformed.{Malformed}
use Rattle.printing.specs.Texts.{malformed_text}
use Rattle.printing.specs.Outcomes.{Printed, AnswerPrinted}
use Rattle.printing.specs.declared.outcome.Ground.{Ground}
use Rattle.printing.specs.declared.outcome.RefusedLine.{RefusedLine}
use Rattle.session.specs.Sessions.{graph, kept}
use Rattle.lines.specs.declared.responder.Responder.{Responder}

-- the call that a command writes, with the memory that it is given: a trail for a statement, a buffer for a listing
abbrev pub call_of : List ℕ → List ℕ → Command → answers.Call
call_of trail listing declare = answers.declare
call_of trail listing (equals p q) = answers.state (terms.equals p q) trail
call_of trail listing (is p v) = answers.state (terms.is p v) trail
call_of trail listing (apart p q) = answers.state (terms.apart p q) trail
call_of trail listing (same p q) = answers.ask_same p q
call_of trail listing (value p) = answers.ask_value p
call_of trail listing list = answers.list listing

-- the call was made that the command writes, and its answer was printed
pub record Called (s : Responder) (c : Command) (before after : List ℕ) (t : Responder) (r : Result ℕ RefusedLine) : Type 0 where
  pub answer : answers.Answer
  pub step : Step graph kept atoms s.session (asked (call_of (vec_items s.trail) (vec_items s.listing) c) answer) t.session
  pub printed : AnswerPrinted answer before after r

-- too little room for what may be printed
abbrev pub no_room : RefusedLine
no_room = record { cause = Ground.Call (ShortBuffer 54877); printed = 0 }

-- s and t hold the session before and after the line, and `before` and `after` are what the buffer holds
pub data Responds (s : Responder) (line before after : List ℕ) (t : Responder) : Result ℕ RefusedLine → Type 0 where
  short : length before < 54877 → t ≡ s → after ≡ before → Responds s line before after t (Err no_room)
  unread : {r : Result ℕ RefusedLine} (why : Malformed) → 54877 ≤ length before → Reads line (Err why) → t ≡ s
      → Printed (malformed_text why) (some (Ground.Line why)) before after r → Responds s line before after t r
  answered : {r : Result ℕ RefusedLine} (c : Command) → 54877 ≤ length before → length line ≤ 120 → Writes c line
      → Called s c before after t r → Responds s line before after t r
