-- What follows for a line from what comes of it.
use Rattle.std.proofs.Common.{◌≡◌, ℕ, ◌<◌, ◌≤◌, List, length, take, Err, Result, subst, inl, inr, arith, length-take}
use Rattle.std.proofs.lemmas.List.{take_all}
use Rattle.std.proofs.lemmas.Bool.{cases_lt}
use Rattle.notation.specs.Reads.{Reads}
use Rattle.notation.specs.declared.malformed.Malformed.{Malformed}
use Rattle.notation.specs.declared.malformed.Malformed.TheVariants.{TooLong, Unfit}
use Rattle.listings.specs.Buffers.{Fitted}
use Rattle.printing.specs.declared.outcome.RefusedLine.{RefusedLine}
use Rattle.lines.specs.Responses.{Responds, short, unread, answered}
use Rattle.lines.specs.Theorems.{FirstBytesSuffice}
use Rattle.lines.specs.declared.responder.Responder.{Responder}

-- what fits a buffer is no longer than it
pub fits : (text before after : List ℕ) (n : ℕ) → Fitted text before after n → n ≤ length before
fits text before after n f = omega (arith, f.size, f.enough)

module _ (line : List ℕ) (more : 121 < length line) where
  cut : length (take 121 line) ≡ 121
  cut = omega (arith, length-take 121 line)

  too_long : (why : Malformed) → Reads (take 121 line) (Err why) → Reads line (Err why)
  too_long TooLong h = omega arith
  too_long (Unfit n) h = absurd (omega (arith, h.0, cut))

  longer : {s t : Responder} {before after : List ℕ} {r : Result ℕ RefusedLine} → Responds s (take 121 line) before after t r → Responds s line before after t r
  longer (short l e f) = short l e f
  longer (unread why l h e p) = unread why l (too_long why h) e p
  longer (answered c l h w p) = absurd (omega (arith, h, cut))

pub first_bytes_suffice : FirstBytesSuffice
first_bytes_suffice s line before after t r h =
    elim (cases_lt 121 (length line)) [
      | inl more ↦ longer line more h
      | inr few ↦ subst (λ (bytes : List ℕ). Responds s bytes before after t r) (take_all 121 line few) h
    ]
