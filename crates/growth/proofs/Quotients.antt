-- With the nodes of two terms joined, and what lies beneath them, a graph stands for one equation more.
use mathlib.Core.Path.{◌≡◌, refl, sym, subst, ◌∙◌}
use mathlib.Core.Logic.{◌⊎◌, inl, inr}
use mathlib.Core.Option.{Option, some}
use mathlib.Core.List.Memᴰ
use mathlib.Core.List.{List, [], ◌∷◌, ◌++◌, Memᴰ, append-nil, append_assoc}
use Prim.Native.Nat.{ℕ, ◌<◌, ◌≤◌}
use native.Mathlib.Omega.{arith}
use Rattle.kinds.specs.Meaning.{Meaning, Lawful}
use Rattle.features.specs.Terms.{Term, Statement, equals, is, only, ◌▸◌}
use Rattle.features.specs.Graphs.{Graph, Leads, here, step, Denotes}
use Rattle.features.specs.Closing.{Joined, variable, stated, given, turned, chained, beneath, top, said_of, Under}
use Rattle.features.proofs.Paths.{leads_more, denotes_one}
use Rattle.features.proofs.BySet.{joined_within}
use Rattle.growth.specs.Standing.{Shape, Judged, Fits, FitsAll}
use Rattle.growth.specs.Changes.{Congruent, stated as joins, itself, turned as turns, chained as chains, beneath as below, Quotient}
use Rattle.growth.specs.Joins.{JoinStands}
use Rattle.growth.proofs.Agreeing.{Agreed, Agrees, agreeing_joins, shape_agrees}
use Rattle.growth.proofs.Keeping.{edge_inside, root_inside, agrees_sent}
use Rattle.growth.proofs.Judging.{fits_under, meets_judged}

module _ (g : Graph) (vars : ℕ) (said : List Statement) (shape : Shape g vars said) (p q : Term) (s t : ℕ) (at-s : Denotes g p s) (at-t : Denotes g q t) where
  abbrev More : List Statement
  More = said ++ (equals p q ∷ [])

  keep : {u w : Term} → Joined vars said u w → Joined vars More u w
  keep = joined_within (λ z i. Memᴰ.append_left (equals p q ∷ []) i)

  -- terms of one node stay joined
  on_one : (u w : Term) (x : ℕ) → Denotes g u x → Denotes g w x → Joined vars More u w
  on_one u w x d e = keep (shape.nothing_else u w x d e)

  congruent_inside : {x y : ℕ} → Congruent g s t x y → (x < g.nodes) × (y < g.nodes)
  congruent_inside joins = (shape.inside p s at-s, shape.inside q t at-t)
  congruent_inside (itself lt) = (lt, lt)
  congruent_inside (turns c) = let i = congruent_inside c in (i.1, i.0)
  congruent_inside (chains c d) = ((congruent_inside c).0, (congruent_inside d).1)
  congruent_inside (below {x = x} {y = y} {u = u} {v = v} {a = a} c e f) =
      let i = congruent_inside c in
      (edge_inside g vars said shape x a u i.0 e, edge_inside g vars said shape y a v i.1 f)

  -- terms of congruent nodes are joined by what was said and the equation
  congruent_joined : {x y : ℕ} → Congruent g s t x y → (u w : Term) → Denotes g u x → Denotes g w y → Joined vars More u w
  congruent_joined joins u w d e =
      chained u p w (on_one u p s d at-s) (chained p q w (stated p q (Memᴰ.append_right said (Memᴰ.head refl))) (on_one q w t at-t e))
  congruent_joined (itself {x = x} lt) u w d e = on_one u w x d e
  congruent_joined (turns c) u w d e = turned w u (congruent_joined c w u e d)
  congruent_joined (chains {y = y} c k) u w d e =
      let r = shape.reached y (congruent_inside c).1 in
      chained u r.0 w (congruent_joined c u r.0 d r.1) (congruent_joined k r.0 w r.1 e)
  congruent_joined (below {x = x} {y = y} {u = i} {v = j} {a = a} c e f) u w du dw =
      let rx = shape.reached x (congruent_inside c).0 in
      let ry = shape.reached y (congruent_inside c).1 in
      let over = congruent_joined c rx.0 ry.0 rx.1 ry.1 in
      let di : Denotes g (rx.0 ▸ a) i = (rx.1.0, leads_more rx.1.1 e) in
      let dj : Denotes g (ry.0 ▸ a) j = (ry.1.0, leads_more ry.1.1 f) in
      let under = beneath rx.0 ry.0 a over (on_one (rx.0 ▸ a) (rx.0 ▸ a) i di di) in
      chained u (rx.0 ▸ a) w (on_one u (rx.0 ▸ a) i du di) (chained (rx.0 ▸ a) (ry.0 ▸ a) w under (on_one (ry.0 ▸ a) w j dj dw))

  module _ (m : Meaning) (state : ℕ → Option ℕ) (f : ℕ → ℕ) (h : Graph) (state' : ℕ → Option ℕ) (quotient : Quotient m s t g state f h state') where
    along : {x y : ℕ} {xs : List ℕ} → x < g.nodes → Leads g x xs y → Leads h (f x) xs (f y)
    along lt here = here
    along {x} lt (step {a = a} {k = k} e l) = step (quotient.edges x a k lt e) (along (edge_inside g vars said shape x a k lt e) l)

    -- a term denotes what its node has become
    denotes_there : (u : Term) (x : ℕ) → Denotes g u x → Denotes h u (f x)
    denotes_there u x d =
        let root_in = root_inside g vars said shape u.var d.0 in
        (subst (λ (z : ℕ). u.var < z) (sym quotient.vars) d.0, subst (λ (z : ℕ). Leads h z u.path (f x)) (sym (quotient.roots u.var d.0)) (along root_in d.1))

    -- u is joined to a term of a node that has become k
    abbrev Origin : Term → ℕ → Type 0
    Origin u k = (y : ℕ) × (w : Term) × (y < g.nodes) × (f y ≡ k) × Denotes g w y × Joined vars More u w

    origin_on : (u : Term) (k a j : ℕ) → Origin u k → h.edge k a ≡ some j → Origin (u ▸ a) j
    origin_on u k a j (y, w, lt, same, d, joined) e =
        let r = quotient.no_others k a j (subst (λ (z : ℕ). z < h.nodes) same (quotient.inside y lt)) e in
        let v = shape.reached r.0 r.2 in
        let vw = congruent_joined (quotient.nothing_else r.0 y r.2 lt (r.3 ∙ sym same)) v.0 w v.1 d in
        let da : Denotes g (v.0 ▸ a) r.1 = (v.1.0, leads_more v.1.1 r.4) in
        let under = beneath v.0 u a (chained v.0 w u vw (turned u w joined)) (on_one (v.0 ▸ a) (v.0 ▸ a) r.1 da da) in
        (r.1, v.0 ▸ a, edge_inside g vars said shape r.0 a r.1 r.2 r.4, r.5, da, turned (v.0 ▸ a) (u ▸ a) under)

    origin_along : {k j : ℕ} {xs : List ℕ} → Leads h k xs j → (x : ℕ) (front : List ℕ) → Origin (record { var = x; path = front }) k → Origin (record { var = x; path = front ++ xs }) j
    origin_along {k} here x front o = subst (λ (z : List ℕ). Origin (record { var = x; path = z }) k) (sym (append-nil front)) o
    origin_along {j = j} (step {n = k} {a = a} {k = i} {rest = rest} e l) x front o =
        subst (λ (z : List ℕ). Origin (record { var = x; path = z }) j) (append_assoc front (a ∷ []) rest) (origin_along l x (front ++ (a ∷ [])) (origin_on (record { var = x; path = front }) k a i o e))

    origin : (u : Term) (k : ℕ) → Denotes h u k → Origin u k
    origin u k d =
        let lt : u.var < g.vars = subst (λ (z : ℕ). u.var < z) quotient.vars d.0 in
        let declared : u.var < vars = subst (λ (z : ℕ). u.var < z) shape.all lt in
        let root_in = root_inside g vars said shape u.var lt in
        origin_along d.1 u.var [] (g.root u.var, only u.var, root_in, sym (quotient.roots u.var lt), (lt, here), variable u.var declared)

    joined_there : (u w : Term) (k : ℕ) → Denotes h u k → Denotes h w k → Joined vars More u w
    joined_there u w k d e =
        let a = origin u k d in
        let b = origin w k e in
        let ab = congruent_joined (quotient.nothing_else a.0 b.0 a.2 b.2 (a.3 ∙ sym b.3)) a.1 b.1 a.4 b.4 in
        chained u a.1 w a.5 (chained a.1 b.1 w ab (turned w b.1 b.5))

    agrees_there : Agrees h More
    agrees_there z i = by_place (Memᴰ.append_cases said i)
      where
        by_place : Memᴰ z said ⊎ Memᴰ z (equals p q ∷ []) → Agreed h z
        by_place (inl old) = agrees_sent f denotes_there (shape_agrees g vars said shape) z old
        by_place (inr new) =
            subst (λ (y : Statement). Agreed h y) (sym (Memᴰ.eq_of_singleton new))
            (f s, denotes_there p s at-s, subst (λ (n : ℕ). Denotes h q n) (sym quotient.pair) (denotes_there q t at-t))

    enough : vars ≤ h.vars
    enough = omega (arith, quotient.vars, shape.all)

    shape_there : Shape h vars More
    shape_there = record {
      all = quotient.vars ∙ shape.all;
      joined = λ u w j. agreeing_joins h vars More enough agrees_there j;
      nothing_else = joined_there;
      reached = λ k lt.
          let x = quotient.onto k lt in
          let r = shape.reached x.0 x.1 in
          (r.0, subst (λ (z : ℕ). Denotes h r.0 z) x.2 (denotes_there r.0 x.0 r.1));
      inside = λ u k d. let o = origin u k d in subst (λ (z : ℕ). z < h.nodes) o.3 (quotient.inside o.0 o.2);
    }

    module _ (lawful : Lawful m) (judged : (u : Term) (n : ℕ) → Denotes g u n → Judged m vars said u (state n)) (u : Term) (k : ℕ) (at-k : Denotes h u k) where
      -- what stands on a node that has become k
      abbrev Stood : Option ℕ → Type 0
      Stood o = (x : ℕ) × (x < g.nodes) × (f x ≡ k) × (o ≡ state x)

      was_said : (r : Term) (w : ℕ) → Memᴰ (is r w) More → Memᴰ (is r w) said
      was_said r w i = by_place (Memᴰ.append_cases said i)
        where
          not_is : is r w ≡ equals p q → ⊥
          not_is e = let z : ◌≡◌ {A = ℕ} 0 1 = cc in omega arith

          by_place : Memᴰ (is r w) said ⊎ Memᴰ (is r w) (equals p q ∷ []) → Memᴰ (is r w) said
          by_place (inl old) = old
          by_place (inr new) = absurd (not_is (Memᴰ.eq_of_singleton new))

      fits_here : (v : ℕ) → FitsAll m Stood v → (r : Term) (x : ℕ) → Denotes g r x → f x ≡ k → Under m vars said r v
      fits_here v all r x d same = (fits_under m vars said r lawful (judged r x d) v).0 (all (state x) (x, shape.inside r x d, same, refl))

      all_under : (v : ℕ) → FitsAll m Stood v → Under m vars More u v
      all_under v all w top = let o = origin u k at-k in fits_here v all o.1 o.0 o.4 o.3 w top
      all_under v all w (said_of r w' i j) =
          let old = was_said r w i in
          let d = shape.joined r r (given r w old) in
          let b = shape_there.joined u r j in
          let same : f d.0 ≡ k = denotes_one h r (f d.0) b.0 (denotes_there r d.0 d.1) b.2 ∙ denotes_one h u b.0 k b.1 at-k in
          fits_here v all r d.0 d.1 same w (said_of r w old (given r w old))

      under_all : (v : ℕ) → Under m vars More u v → FitsAll m Stood v
      under_all v under o (x, lt, same, e) =
          let r = shape.reached x lt in
          let d : Denotes h r.0 k = subst (λ (z : ℕ). Denotes h r.0 z) same (denotes_there r.0 x r.1) in
          subst (λ (z : Option ℕ). Fits m v z) (sym e) ((fits_under m vars said r.0 lawful (judged r.0 x r.1) v).1 (under_old r.0 (joined_there u r.0 k at-k d)))
        where
          under_old : (r : Term) → Joined vars More u r → Under m vars said r v
          under_old r j w top = under w top
          under_old r j w (said_of r' w' i l) = under w (said_of r' w (Memᴰ.append_left (equals p q ∷ []) i) (chained u r r' j (keep l)))

      judged_there : Judged m vars More u (state' k)
      judged_there = meets_judged m vars More u Stood (λ v. (all_under v, under_all v)) (state' k) (quotient.met k (shape_there.inside u k at-k))

pub join_stands : JoinStands
join_stands m g h state state' vars said p q s t f lawful stands at-s at-t quotient = record {
  shape = shape_there g vars said stands.shape p q s t at-s at-t m state f h state' quotient;
  judged = judged_there g vars said stands.shape p q s t at-s at-t m state f h state' quotient lawful stands.judged;
}
