-- What holds of every line.
use Rattle.std.proofs.Math.Option.{Option, some, none}
use Rattle.std.specs.Prelude.{ℕ, List, take, vec_items, Result}
use Rattle.kinds.specs.Atoms.{atoms}
use Rattle.features.specs.Terms.{Statement}
use Rattle.answers.specs.Answers.{Answer}
use Rattle.answers.specs.Runs.{Has, Step, asked}
use Rattle.answers.specs.declared.refusal.Refusal.{Refusal}
use Rattle.answers.specs.declared.refusal.Refusal.TheVariants.{Undeclared, LongTerm, NoAttribute, NoSuchValue, ShortTrail, ApartsFull, ValueClash, LeafClash, ApartClash, VariablesFull, NodesFull, ShortBuffer}
use Rattle.notation.specs.Notation.{Command}
use Rattle.printing.specs.Texts.{refusal_in}
use Rattle.session.specs.Sessions.{graph, kept}
use Rattle.printing.specs.declared.outcome.RefusedLine.{RefusedLine}
use Rattle.lines.specs.Responses.{call_of, Responds}
use Rattle.lines.specs.declared.responder.Responder.{Responder}

-- what is right for the first 121 bytes of a line is right for the line
abbrev pub FirstBytesSuffice : Type 0
FirstBytesSuffice = (s : Responder) (line before after : List ℕ) (t : Responder) (r : Result ℕ RefusedLine) → Responds s (take 121 line) before after t r → Responds s line before after t r

-- no refusal for a trail or a buffer that is too short
abbrev pub Roomy : Option Refusal → Type 0
Roomy none = Unit {0}
Roomy (some (Undeclared side)) = Unit {0}
Roomy (some (LongTerm side)) = Unit {0}
Roomy (some (NoAttribute side position)) = Unit {0}
Roomy (some NoSuchValue) = Unit {0}
Roomy (some ShortTrail) = ⊥
Roomy (some ApartsFull) = Unit {0}
Roomy (some (ValueClash var count)) = Unit {0}
Roomy (some (LeafClash var count)) = Unit {0}
Roomy (some (ApartClash place)) = Unit {0}
Roomy (some VariablesFull) = Unit {0}
Roomy (some NodesFull) = Unit {0}
Roomy (some (ShortBuffer size)) = ⊥

-- the call of a line is never refused for its memory
abbrev pub MemorySuffices : Type 0
MemorySuffices =
    (s t : Responder) (c : Command) (a : Answer) (vars : ℕ) (said : List Statement) → Has graph kept atoms s.session vars said
    → Step graph kept atoms s.session (asked (call_of (vec_items s.trail) (vec_items s.listing) c) a) t.session → Roomy (refusal_in a)
