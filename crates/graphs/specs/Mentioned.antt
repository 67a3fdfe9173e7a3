-- Nodes numbered by their first mentions, as far as these have been gone through.
use Rattle.std.specs.Prelude.{◌≡◌, ℕ, ◌+◌, ◌<◌, ◌≤◌, false, ◌⊎◌}
use Rattle.kinds.specs.Masks.{has}
use Rattle.features.specs.Graphs.{Graph}
use Rattle.features.specs.Numbering.{Mention, Mentions, Sooner, FirstMention}
use Rattle.features.proofs.Numbering.{GivenBefore}

-- the nodes mentioned sooner than c are those below next, numbered in the order of their first mentions
pub record NumberedUpTo (g : Graph) (c : Mention) (next : ℕ) : Type 0 where
  pub mentioned : (n : ℕ) (k : Mention) → Mentions g n k → Sooner k c → n < next
  pub firsts : (n : ℕ) → n < next → (k : Mention) × FirstMention g n k × Sooner k c × GivenBefore n k
  pub rising : (n o : ℕ) (k l : Mention) → n < o → o < next → FirstMention g n k → FirstMention g o l → Sooner k l

-- r of the nodes have their numbers once n is mentioned, where next had theirs before: n is one of them or gets the next number
abbrev pub WithMention : ℕ → ℕ → ℕ → Type 0
WithMention next n r = ((n < next) × (r ≡ next)) ⊎ ((n ≡ next) × (r ≡ next + 1))

-- of a set of attributes, left has those from a on
pub record LeftFrom (present left a : ℕ) : Type 0 where
  pub gone : (b : ℕ) → b < a → has left b ≡ false
  pub kept : (b : ℕ) → a ≤ b → has left b ≡ has present b
