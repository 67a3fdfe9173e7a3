-- Bytes at the front of a buffer.
use Rattle.std.specs.Prelude.{◌≡◌, ℕ, ◌<◌, ◌≤◌, List, ◌++◌, length, drop}

-- all the bytes stand at the front of the buffer, and what follows them is as it was
pub record Fitted (bytes before after : List ℕ) (n : ℕ) : Type 0 where
  pub size : n ≡ length bytes
  pub enough : length bytes ≤ length before
  pub front : after ≡ bytes ++ drop (length bytes) before

-- the buffer is too short for the bytes and keeps its own; as many are needed as there are
pub record TooShort (bytes before after : List ℕ) (needed : ℕ) : Type 0 where
  pub size : needed ≡ length bytes
  pub short : length before < length bytes
  pub kept : after ≡ before
