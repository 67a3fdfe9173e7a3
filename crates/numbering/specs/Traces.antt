-- Trails by the mentions that are kept.
use Rattle.std.specs.Prelude.{◌≡◌, ℕ, List, ◌++◌, length, drop}
use Rattle.features.specs.Terms.{Term, only, ◌▸◌}
use Rattle.features.specs.Graphs.{Graph}
use Rattle.features.specs.Order.{Trail}
use Rattle.features.specs.Numbering.{by_variable, by_attribute}
use Rattle.numbering.specs.declared.numbers.Numbers.{Numbers}
use Rattle.numbering.specs.Given.{given}
use Rattle.numbering.specs.Frontier.{in_numbers}

-- the term that leads from mention to mention back to a variable
pub data Traced (n : Numbers) : ℕ → Term → Type 0 where
  at_variable : {k x : ℕ} → given n k ≡ by_variable x → Traced n k (only x)
  at_attribute : {k i a : ℕ} {t : Term} → given n k ≡ by_attribute i a → Traced n i t → Traced n k (t ▸ a)

-- a trail of k in the graph of the numbers: its variable, and the attributes at the start of what was written
pub record TrailWritten (g : Graph) (n : Numbers) (k var count : ℕ) (old new : List ℕ) : Type 0 where
  pub path : List ℕ
  pub trail : Trail (in_numbers g n) k (record { var = var; path = path })
  pub attributes : count ≡ length path
  pub written : new ≡ path ++ drop (length path) old
