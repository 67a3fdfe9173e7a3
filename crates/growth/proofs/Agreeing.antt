-- What follows from statements holds in every graph whose shape agrees with them, whatever its values.
use mathlib.Core.Path.{◌≡◌, subst}
use mathlib.Core.Option.{some}
use mathlib.Core.List.{List, Memᴰ}
use Prim.Native.Nat.{ℕ, ◌<◌, ◌≤◌}
use native.Mathlib.Omega.{arith}
use Rattle.features.specs.Terms.{Term, Statement, equals, is, apart}
use Rattle.features.specs.Graphs.{Graph, here, Denotes}
use Rattle.features.specs.Closing.{Joined, variable, stated, given, turned, chained, begun, beneath}
use Rattle.features.proofs.Paths.{leads_same, leads_more, leads_back, denotes_one}
use Rattle.growth.specs.Standing.{Shape}

-- the terms of a statement denote in g, and those of an equation one node
abbrev pub Agreed : Graph → Statement → Type 0
Agreed g (equals p q) = (n : ℕ) × Denotes g p n × Denotes g q n
Agreed g (is p v) = (n : ℕ) × Denotes g p n
Agreed g (apart p q) = Unit {0}

abbrev pub Agrees : Graph → List Statement → Type 0
Agrees g said = (s : Statement) → Memᴰ s said → Agreed g s

-- joined terms denote one node
pub agreeing_joins : (g : Graph) (vars : ℕ) (said : List Statement) → vars ≤ g.vars → Agrees g said → {p q : Term} → Joined vars said p q → (n : ℕ) × Denotes g p n × Denotes g q n
agreeing_joins g vars said le agrees (variable x h) = let lt : x < g.vars = omega arith in (g.root x, (lt, here), (lt, here))
agreeing_joins g vars said le agrees (stated p q i) = agrees (equals p q) i
agreeing_joins g vars said le agrees (given p v i) = let s = agrees (is p v) i in (s.0, s.1, s.1)
agreeing_joins g vars said le agrees (turned p q j) = let s = agreeing_joins g vars said le agrees j in (s.0, s.2, s.1)
agreeing_joins g vars said le agrees (chained p q r j k) =
    let s = agreeing_joins g vars said le agrees j in
    let t = agreeing_joins g vars said le agrees k in
    (s.0, s.1, subst (λ (z : ℕ). Denotes g r z) (denotes_one g q t.0 s.0 t.1 s.2) t.2)
agreeing_joins g vars said le agrees (begun p q a j) =
    let s = agreeing_joins g vars said le agrees j in
    let b = leads_back p.path s.1.1 in
    (b.0, (s.1.0, b.1), (s.1.0, b.1))
agreeing_joins g vars said le agrees (beneath p q a j k) =
    let s = agreeing_joins g vars said le agrees j in
    let t = agreeing_joins g vars said le agrees k in
    let b = leads_back p.path t.1.1 in
    let e = leads_same b.1 s.1.1 in
    (t.0, t.1, (s.2.0, leads_more s.2.1 (subst (λ (z : ℕ). g.edge z a ≡ some t.0) e b.2)))

pub shape_agrees : (g : Graph) (vars : ℕ) (said : List Statement) → Shape g vars said → Agrees g said
shape_agrees g vars said shape (equals p q) i = shape.joined p q (stated p q i)
shape_agrees g vars said shape (is p v) i = let d = shape.joined p p (given p v i) in (d.0, d.1)
shape_agrees g vars said shape (apart p q) i = tt
