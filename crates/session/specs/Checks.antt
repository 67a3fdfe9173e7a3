-- What a check answers.
use Rattle.std.specs.Prelude.{◌≡◌, Ok, Err, Result}
use Rattle.std.proofs.Math.Option.{Option, some, none}
use Rattle.answers.specs.declared.refusal.Refusal.{Refusal}

-- the fault is reported, and only where there is one
abbrev pub Reports : Option Refusal → Result (Unit {0}) Refusal → Type 0
Reports fault (Ok u) = fault ≡ none
Reports fault (Err r) = fault ≡ some r
