-- No listing is refused.
use Rattle.std.proofs.Common.{arith}
use Rattle.graphs.specs.Reading.{ListingsAreRead}
use Rattle.graphs.specs.declared.misread.Misread.TheVariants.{Short, Counts, RecordPasses, RecordsEnd, NoValue, Attributes, TargetOutside, VariableOutside, LeafBranches, NotInOrder}
use Rattle.graphs.proofs.Alike.{in_order_alike}
use Rattle.graphs.proofs.Listed.{listed_counted, listed_ends, listed_right, listed_root}

pub listings_are_read : ListingsAreRead
listings_are_read m bs g w order Short q = let l = (listed_counted m bs g w).long in omega arith
listings_are_read m bs g w order Counts q = q.1 (listed_counted m bs g w)
listings_are_read m bs g w order (RecordPasses k) q = q.1 (listed_right m bs g w k q.0.inside).fits
listings_are_read m bs g w order (RecordsEnd n) q = q.2 (listed_ends m bs g w)
listings_are_read m bs g w order (NoValue k) q = q.2 (listed_right m bs g w k q.0.inside).valued
listings_are_read m bs g w order (Attributes k) q = q.3 (listed_right m bs g w k q.0.inside).rising
listings_are_read m bs g w order (TargetOutside k) q = q.4 (listed_right m bs g w k q.0.inside).targets
listings_are_read m bs g w order (VariableOutside x) q = q.2 (listed_root m bs g w x q.1)
listings_are_read m bs g w order (LeafBranches k) q = q.5 (listed_right m bs g w k q.0.inside).bare
listings_are_read m bs g w order NotInOrder q = q.2 (in_order_alike m bs g q.0 w q.1 order)
