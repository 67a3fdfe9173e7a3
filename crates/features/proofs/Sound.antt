-- What follows from statements holds in every graph that satisfies them.
use Rattle.std.proofs.Common.{◌≡◌, ℕ, ◌<◌, true, List, ◌∙◌, subst, arith}
use mathlib.Core.Option.{some}
use Rattle.kinds.specs.Meaning.{Meaning, Lawful}
use Rattle.features.specs.Terms.{Term, Statement, equals, is}
use Rattle.features.specs.Graphs.{Graph, here, Denotes, Model}
use Rattle.features.specs.Closing.{Joined, variable, stated, given, turned, chained, begun, beneath, top, said_of, Under}
use Rattle.features.proofs.Paths.{leads_same, leads_more, leads_back, denotes_one, feature_inside}

module _ (m : Meaning) (vars : ℕ) (said : List Statement) (g : Graph) (model : Model m vars said g) where
  -- joined terms denote one node
  pub joined_in_model : {p q : Term} → Joined vars said p q → (n : ℕ) × Denotes g p n × Denotes g q n
  joined_in_model (variable x h) = let lt : x < g.vars = omega (arith, model.declared) in (g.root x, (lt, here), (lt, here))
  joined_in_model (stated p q i) = model.satisfies (equals p q) i
  joined_in_model (given p v i) = let s = model.satisfies (is p v) i in (s.0, s.1, s.1)
  joined_in_model (turned p q j) = let s = joined_in_model j in (s.0, s.2, s.1)
  joined_in_model (chained p q r j k) =
      let s = joined_in_model j in
      let t = joined_in_model k in
      (s.0, s.1, subst (λ (z : ℕ). Denotes g r z) (denotes_one g q t.0 s.0 t.1 s.2) t.2)
  joined_in_model (begun p q a j) =
      let s = joined_in_model j in
      let b = leads_back p.path s.1.1 in
      (b.0, (s.1.0, b.1), (s.1.0, b.1))
  joined_in_model (beneath p q a j k) =
      let s = joined_in_model j in
      let t = joined_in_model k in
      let b = leads_back p.path t.1.1 in
      let e = leads_same b.1 s.1.1 in
      (t.0, t.1, (s.2.0, leads_more s.2.1 (subst (λ (z : ℕ). g.edge z a ≡ some t.0) e b.2)))

  -- the value of a node is at or below all that came to it
  pub model_value_under : Lawful m → (p : Term) (n : ℕ) → Denotes g p n → Under m vars said p (g.value n)
  model_value_under lawful p n d w top = lawful.under_top (g.value n) (model.feature.values n (feature_inside m g model.feature p n d))
  model_value_under lawful p n d w (said_of q v i j) =
      let s = model.satisfies (is q v) i in
      let b = joined_in_model j in
      subst (λ (z : ℕ). m.below (g.value z) w ≡ true) (denotes_one g q s.0 b.0 s.1 b.2 ∙ denotes_one g p b.0 n b.1 d) s.2
