-- Where a map has to lead, as far as the mentions of nodes have been gone through.
use Rattle.std.specs.Prelude.{◌≡◌, ℕ, ◌<◌, List, slice_index}
use Rattle.std.proofs.Math.Option.{some}
use Rattle.kinds.specs.Meaning.{Meaning}
use Rattle.features.specs.Graphs.{Graph, Map}
use Rattle.features.specs.Numbering.{Mention, by_variable, by_attribute, Mentions, Sooner}
use Rattle.graphs.specs.Mentioned.{NumberedUpTo}

-- what mentions n in one graph mentions its image in the other
abbrev pub Follows : Graph → List ℕ → Mention → ℕ → Type 0
Follows h images (by_variable x) n = slice_index images n ≡ h.root x
Follows h images (by_attribute i a) n = h.edge (slice_index images i) a ≡ some (slice_index images n)

-- the nodes of g mentioned sooner than c have images in h, which every map has to give them
pub record MappedUpTo (g h : Graph) (c : Mention) (next : ℕ) (images : List ℕ) : Type 0 where
  pub numbered : NumberedUpTo g c next
  pub givers : (i a n : ℕ) → Mentions g n (by_attribute i a) → Sooner (by_attribute i a) c → i < next
  pub inside : (n : ℕ) → n < next → slice_index images n < h.nodes
  pub followed : (k : Mention) (n : ℕ) → Mentions g n k → Sooner k c → Follows h images k n
  pub forced : (m : Meaning) (f : ℕ → ℕ) → Map m g h f → (n : ℕ) → n < next → f n ≡ slice_index images n

-- no map leads from g into h
abbrev pub Apart : Graph → Graph → Type 0
Apart g h = (m : Meaning) (f : ℕ → ℕ) → Map m g h f → ⊥
