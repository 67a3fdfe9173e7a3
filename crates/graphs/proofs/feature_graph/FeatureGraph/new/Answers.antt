use Rattle.std.proofs.Common.{arith}
use Rattle.graphs.proofs.feature_graph.FeatureGraph.new.Goals as goal

pub invariant_of-result : goal.invariant_of-result
invariant_of-result c =
    let t = c.in_ok-table.ensures in
    let s = c.in_ok-spare.ensures in
    record {
      sound = ∣ t.0 ∣₁;
      few = omega (arith, t.1);
      row_room = s.0.row_room;
      root_room = s.0.root_room;
      ordered = ∣ record { mentioned = λ n l. absurd (omega (arith, t.1)); numbered_before = λ n i a l. absurd (omega (arith, t.1)); rising = λ n o k l h i. absurd (omega (arith, t.1)) } ∣₁;
    }
