-- A line that was printed from the start of a buffer.
use Rattle.std.proofs.Common.{◌≡◌, ℕ, List, [], length, ap, ◌∙◌}
use Rattle.buffers.specs.Writing.{so_far, left, Wrote}
use Rattle.buffers.specs.declared.Writer.{Writer}
use Rattle.buffers.proofs.Runs.{written_is}
use Rattle.listings.specs.Buffers.{Fitted}
use Rattle.listings.proofs.Placing.{fitted}

pub line_fitted : {text before after : List ℕ} (n : ℕ) (x y : Writer) → so_far x ≡ [] → left x ≡ before → Wrote text x y → after ≡ y.buffer.now → n ≡ length (so_far y) → Fitted text before after n
line_fitted n x y nothing all w end count = fitted n x y nothing all w end (count ∙ ap length (written_is x y nothing w))
