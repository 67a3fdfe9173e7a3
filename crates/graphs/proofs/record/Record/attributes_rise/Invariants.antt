use Rattle.std.proofs.Common.{◌≡◌, ℕ, ◌+◌, ◌*◌, ◌<◌, ◌≤◌, ◌⊎◌, length, drop}
use Rattle.std.specs.Slice.Iter.{chunks_exact_rest, chunks_exact_size}
use Rattle.graphs.specs.Listings.{count_at, attribute_at}
use Rattle.graphs.proofs.record.Record.attributes_rise.Given as goal

-- the attributes so far rise and are below `least`, which is 0 or follows one of them
abbrev pub invariant-loop-entry : goal.invariant-loop-entry
invariant-loop-entry l = record {
  size : chunks_exact_size l.entry-iterator ≡ 3;
  rest : chunks_exact_rest l.entry-iterator ≡ drop (9 + 3 * length l.yielded) l.self.bytes.now;
  few : length l.yielded ≤ count_at l.self.bytes.now 0;
  rise : (j : ℕ) → j < length l.yielded → (attribute_at l.self.bytes.now 0 j < l.least) × (attribute_at l.self.bytes.now 0 j < 32) × ((k : ℕ) → k < j → attribute_at l.self.bytes.now 0 k < attribute_at l.self.bytes.now 0 j);
  most : l.least ≤ 32;
  last : (l.least ≡ 0) ⊎ ((j : ℕ) × (j < length l.yielded) × (l.least ≡ attribute_at l.self.bytes.now 0 j + 1));
}
