use Rattle.std.proofs.Common.{sym, ap, ◌∙◌, arith}
use Rattle.features.specs.Listing.{little}
use Rattle.graphs.proofs.Trailing.{trailer_bytes}
use Rattle.graphs.proofs.counts.read_trailer.Goals as goal

pub returns : goal.returns
returns c = record {
  counted = record { long = omega arith; nodes = omega arith; variables = omega arith; whole = omega arith };
  nodes = c.number_at-nodes.ensures.value;
  variables = c.number_at-variables.ensures.value;
  place = c.number_at-place.ensures.value;
  small = omega arith;
  bytes = trailer_bytes c.args.bytes.now (omega arith) (ap (little 2) (sym c.number_at-nodes.ensures.value) ∙ c.number_at-nodes.ensures.bytes) (ap (little 2) (sym c.number_at-variables.ensures.value) ∙ c.number_at-variables.ensures.bytes) (ap (little 4) (sym c.number_at-place.ensures.value) ∙ c.number_at-place.ensures.bytes);
}
