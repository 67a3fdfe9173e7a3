-- Graphs of one shape are in listing order together.
use mathlib.Core.Path.{◌∙◌}
use Prim.Native.Nat.{ℕ}
use native.Mathlib.Omega.{arith}
use Rattle.features.specs.Terms.{Term}
use Rattle.features.specs.Graphs.{Denotes}
use Rattle.features.specs.Order.{Trail}
use Rattle.growth.specs.Joins.{SameShapeInOrder}
use Rattle.growth.proofs.Keeping.{denotes_kept, denotes_before}

pub same_shape_in_order : SameShapeInOrder
same_shape_in_order g h vars said shape same ordered = record {
  reached = λ n lt. let r = ordered.reached n (omega (arith, lt, same.nodes)) in (r.0, trail_there n r.0 r.1);
  rising = λ i j s t less lt a b. ordered.rising i j s t less (omega (arith, lt, same.nodes)) (trail_back i s a) (trail_back j t b);
}
  where
    there : (p : Term) (n : ℕ) → Denotes g p n → Denotes h p n
    there = denotes_kept g vars said shape h same.roots (omega (arith, same.vars)) (λ n a k lt e. same.edges n a lt ∙ e)

    back : (p : Term) (n : ℕ) → Denotes h p n → Denotes g p n
    back p n d = denotes_before g vars said shape h same.roots same.edges p n (omega (arith, d.0, same.vars)) d

    trail_there : (n : ℕ) (t : Term) → Trail g n t → Trail h n t
    trail_there n t trail = record { denotes = there t n trail.denotes; first = λ p d. trail.first p (back p n d) }

    trail_back : (n : ℕ) (t : Term) → Trail h n t → Trail g n t
    trail_back n t trail = record { denotes = back t n trail.denotes; first = λ p d. trail.first p (there p n d) }
