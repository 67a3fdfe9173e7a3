-- In a graph of the shape of what was said the trails are the first terms; one that holds what was said is closed, and each node has its trail.
use Rattle.std.proofs.Common.{◌≡◌, ℕ, ◌<◌, List, subst}
use mathlib.Core.Option.{some}
use Rattle.kinds.specs.Meaning.{Meaning}
use Rattle.features.specs.Terms.{Term, Statement, only, ◌▸◌}
use Rattle.features.specs.Graphs.{Graph, here, Denotes}
use Rattle.features.specs.Closing.{Joined}
use Rattle.features.specs.Order.{Trail}
use Rattle.features.specs.Holding.{Shape, Holds}
use Rattle.features.specs.Clashes.{First}
use Rattle.features.specs.Theorems.{OneTrail, TrailIsFirst}
use Rattle.features.proofs.Paths.{leads_more, denotes_one}
use Rattle.features.proofs.Closure.{attribute_small}
use Rattle.features.proofs.TotalOrder.{trail_same}
use Rattle.features.proofs.Trails.{trail_there}

module _ (m : Meaning) (g : Graph) (vars : ℕ) (said : List Statement) (shape : Shape g vars said) where
  -- what is joined with p denotes its node
  joined_there : (p q : Term) (n : ℕ) → Denotes g p n → Joined vars said p q → Denotes g q n
  joined_there p q n d j =
      let b = shape.joined p q j in
      subst (λ (z : ℕ). Denotes g q z) (denotes_one g p b.0 n b.1 d) b.2

  pub trail_first : (t : Term) (n : ℕ) → Trail g n t → First m vars said t
  trail_first t n trail = record {
    denotes = shape.nothing_else t t n trail.denotes trail.denotes;
    least = λ p j before. trail.first p (joined_there t p n trail.denotes j) before;
  }

  pub first_trail : (t : Term) (n : ℕ) → Denotes g t n → First m vars said t → Trail g n t
  first_trail t n d first = record { denotes = d; first = λ p e before. first.least p (shape.nothing_else t p n d e) before }

module _ (m : Meaning) (g : Graph) (kept : List Statement) (vars : ℕ) (said : List Statement) (holds : Holds m g kept vars said) where
  pub held_shape : Shape g vars said
  held_shape = record { all = holds.all; joined = holds.joined; nothing_else = holds.nothing_else; reached = holds.reached; inside = holds.inside }

  pub held_roots : (x : ℕ) → x < g.vars → g.root x < g.nodes
  held_roots x lt = holds.inside (only x) (g.root x) (lt, here)

  -- an attribute of a node leads on inside, and is below 32
  pub held_edges : (n a t : ℕ) → n < g.nodes → g.edge n a ≡ some t → (a < 32) × (t < g.nodes)
  held_edges n a t lt e =
      let r = holds.reached n lt in
      let d : Denotes g (r.0 ▸ a) t = (r.1.0, leads_more r.1.1 e) in
      (attribute_small m vars said holds.proper r.0 a (holds.nothing_else (r.0 ▸ a) (r.0 ▸ a) t d d), holds.inside (r.0 ▸ a) t d)

  -- a node that a term denotes has exactly one trail
  pub held_trail : (p : Term) (n : ℕ) → Denotes g p n → OneTrail g n
  held_trail p n d =
      let r = trail_there g n held_edges held_roots p d in
      (r.0, r.1, λ s trail. trail_same g n s r.0 trail r.1)

  -- of the terms joined with one that denotes, one is the first
  pub first_there : (p : Term) → Joined vars said p p → (t : Term) × First m vars said t × Joined vars said p t
  first_there p j =
      let d = holds.joined p p j in
      let r = held_trail p d.0 d.1 in
      (r.0, trail_first m g vars said held_shape r.0 d.0 r.1, holds.nothing_else p r.0 d.0 d.1 r.1.denotes)

pub trail_is_first : TrailIsFirst
trail_is_first m g kept vars said holds t n d =
    let shape = held_shape m g kept vars said holds in
    (trail_first m g vars said shape t n, first_trail m g vars said shape t n d)
