use Rattle.std.proofs.Common.{◌≡◌, ◌≤◌, take, drop, vec_len, vec_capacity}
use Rattle.graphs.specs.Listings.{start}
use Rattle.graphs.specs.Reading.{RightBelow}
use Rattle.graphs.specs.Rows.{RowsOf}
use Rattle.graphs.proofs.listing.Listing.read_records.Given as goal

abbrev pub invariant-loop-node : goal.invariant-loop-node
invariant-loop-node g l = record {
  below : RightBelow (g.K.Kind.meaning l.self.kind.now) l.self.bytes.now l.node;
  within : start l.self.bytes.now l.node ≤ l.self.trailer.place;
  rest : l.rest ≡ drop (start l.self.bytes.now l.node) (take l.self.trailer.place l.self.bytes.now);
  many : vec_len l.rows ≡ l.node;
  room : vec_capacity l.rows ≡ vec_capacity l.fn.rows;
  rows : RowsOf (g.K.Kind.meaning l.self.kind.now) l.self.bytes.now l.rows.items l.node;
}
