-- What a writer has written, and what is left of its buffer.
use Rattle.std.specs.Prelude.{◌≡◌, ℕ, ◌+◌, List, ◌++◌, length, take, drop}
use Rattle.buffers.specs.declared.Writer.{Writer}

-- the bytes that were written
unfoldable pub so_far : Writer → List ℕ
so_far w = take w.at w.buffer.now

-- what the buffer has after them
unfoldable pub left : Writer → List ℕ
left w = drop w.at w.buffer.now

-- how many bytes more can be written
abbrev pub room : Writer → ℕ
room w = length (left w)

-- some bytes were written after all others, in place of as many of those that were left
pub record Wrote (bytes : List ℕ) (before after : Writer) : Type 0 where
  pub more : so_far after ≡ so_far before ++ bytes
  pub rest : left after ≡ drop (length bytes) (left before)
  pub room : length bytes + room after ≡ room before
  pub same_buffer : after.buffer.ghost_name ≡ before.buffer.ghost_name
