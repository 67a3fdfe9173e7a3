use Rattle.std.proofs.Common.{◌≡◌, ℕ, ◌+◌, ◌*◌, ◌<◌, ◌≤◌, length, drop}
use Rattle.std.specs.Slice.Iter.{chunks_exact_rest, chunks_exact_size}
use Rattle.graphs.specs.Listings.{count_at, target_at}
use Rattle.graphs.proofs.record.Record.targets_inside.Given as goal

abbrev pub invariant-loop-entry : goal.invariant-loop-entry
invariant-loop-entry l = record {
  size : chunks_exact_size l.entry-iterator ≡ 3;
  rest : chunks_exact_rest l.entry-iterator ≡ drop (9 + 3 * length l.yielded) l.self.bytes.now;
  few : length l.yielded ≤ count_at l.self.bytes.now 0;
  inside : (j : ℕ) → j < length l.yielded → target_at l.self.bytes.now 0 j < l.nodes;
}
