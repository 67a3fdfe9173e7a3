use Rattle.std.proofs.Common.{◌≡◌, ℕ, ◌*◌, ◌<◌, length, take, drop, vec_len, vec_capacity}
use Rattle.std.specs.Slice.Iter.{chunks_exact_rest, chunks_exact_size}
use Rattle.graphs.specs.Listings.{node_count, root_at}
use Rattle.graphs.specs.Rows.{RootsOf}
use Rattle.graphs.proofs.listing.Listing.read_roots.Given as goal

abbrev pub invariant-loop-variable : goal.invariant-loop-variable
invariant-loop-variable g l = record {
  size : chunks_exact_size l.variable-iterator.iter ≡ 2;
  count : l.variable-iterator.count ≡ length l.yielded;
  rest : chunks_exact_rest l.variable-iterator.iter ≡ drop (2 * length l.yielded) (take (2 * l.self.trailer.variables) (drop l.self.trailer.place l.self.bytes.now));
  roots : RootsOf l.self.bytes.now l.roots.items (length l.yielded);
  inside : (y : ℕ) → y < length l.yielded → root_at l.self.bytes.now y < node_count l.self.bytes.now;
  many : vec_len l.roots ≡ length l.yielded;
  room : vec_capacity l.roots ≡ vec_capacity l.fn.roots;
}
