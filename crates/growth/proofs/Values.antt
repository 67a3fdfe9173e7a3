-- With a value come to the node of a term, a graph stands for one statement of a value more.
use mathlib.Core.Path.{◌≡◌, refl, sym, subst, ◌∙◌}
use mathlib.Core.Logic.{◌⊎◌, inl, inr, ◌↔◌}
use mathlib.Core.Bool.{true}
use mathlib.Core.Option.{Option, some}
use mathlib.Core.List.Memᴰ
use mathlib.Core.List.{List, [], ◌∷◌, ◌++◌, Memᴰ}
use Prim.Native.Nat.{ℕ, ◌<◌, ◌≤◌}
use native.Mathlib.Omega.{arith}
use native.Mathlib.Decide.{ℕ_discrete}
use Rattle.kinds.specs.Meaning.{Meaning, Lawful}
use Rattle.features.specs.Terms.{Term, Statement, is}
use Rattle.features.specs.Graphs.{Graph, Denotes}
use Rattle.features.specs.Closing.{Joined, Came, top, said_of, Under}
use Rattle.features.proofs.Paths.{denotes_one}
use Rattle.features.proofs.BySet.{joined_within, came_within}
use Rattle.growth.specs.Standing.{Shape, Judged, Fits, FitsAll}
use Rattle.growth.specs.Changes.{Given}
use Rattle.growth.specs.Joins.{ValueStands}
use Rattle.growth.proofs.Agreeing.{Agreed, Agrees, agreeing_joins, shape_agrees}
use Rattle.growth.proofs.Keeping.{denotes_kept, denotes_before, agrees_kept}
use Rattle.growth.proofs.Redundant.{judged_same}
use Rattle.growth.proofs.Judging.{fits_under, meets_judged}

module _ (g : Graph) (vars : ℕ) (said : List Statement) (shape : Shape g vars said) (p : Term) (s v : ℕ) (at-s : Denotes g p s) where
  abbrev More : List Statement
  More = said ++ (is p v ∷ [])

  into_more : (z : Statement) → Memᴰ z said → Memᴰ z More
  into_more z i = Memᴰ.append_left (is p v ∷ []) i

  keep : {u w : Term} → Joined vars said u w → Joined vars More u w
  keep = joined_within into_more

  module _ (m : Meaning) (state : ℕ → Option ℕ) (h : Graph) (state' : ℕ → Option ℕ) (change : Given m s v g state h state') where
    -- terms denote the nodes that they did
    denotes_there : (u : Term) (n : ℕ) → Denotes g u n → Denotes h u n
    denotes_there = denotes_kept g vars said shape h change.roots (omega (arith, change.vars)) (λ n a k lt e. change.edges n a lt ∙ e)

    denotes_back : (u : Term) (n : ℕ) → Denotes h u n → Denotes g u n
    denotes_back u n d = denotes_before g vars said shape h change.roots change.edges u n (subst (λ (z : ℕ). u.var < z) change.vars d.0) d

    agrees_there : Agrees h More
    agrees_there z i = by_place (Memᴰ.append_cases said i)
      where
        by_place : Memᴰ z said ⊎ Memᴰ z (is p v ∷ []) → Agreed h z
        by_place (inl old) = agrees_kept denotes_there (shape_agrees g vars said shape) z old
        by_place (inr new) = subst (λ (y : Statement). Agreed h y) (sym (Memᴰ.eq_of_singleton new)) (s, denotes_there p s at-s)

    enough : vars ≤ h.vars
    enough = omega (arith, change.vars, shape.all)

    joined_back : (u w : Term) → Joined vars More u w → Joined vars said u w
    joined_back u w j =
        let d = agreeing_joins h vars More enough agrees_there j in
        shape.nothing_else u w d.0 (denotes_back u d.0 d.1) (denotes_back w d.0 d.2)

    shape_there : Shape h vars More
    shape_there = record {
      all = change.vars ∙ shape.all;
      joined = λ u w j. agreeing_joins h vars More enough agrees_there j;
      nothing_else = λ u w n d e. keep (shape.nothing_else u w n (denotes_back u n d) (denotes_back w n e));
      reached = λ n lt. let r = shape.reached n (subst (λ (z : ℕ). n < z) change.nodes lt) in (r.0, denotes_there r.0 n r.1);
      inside = λ u n d. subst (λ (z : ℕ). n < z) (sym change.nodes) (shape.inside u n (denotes_back u n d));
    }

    module _ (u : Term) where
      -- what has come is what had come before, or v where u is joined to p
      came_back : (c : ℕ) → Came m vars More u c → Came m vars said u c ⊎ (Joined vars said u p × (v ≡ c))
      came_back c top = inl top
      came_back c (said_of r c' i j) = by_place (Memᴰ.append_cases said i)
        where
          by_place : Memᴰ (is r c) said ⊎ Memᴰ (is r c) (is p v ∷ []) → Came m vars said u c ⊎ (Joined vars said u p × (v ≡ c))
          by_place (inl old) = inl (said_of r c old (joined_back u r j))
          by_place (inr new) =
              let e = Memᴰ.eq_of_singleton new in
              let same : r ≡ p = cc in
              inr (subst (λ (z : Term). Joined vars said u z) same (joined_back u r j), cc)

      module _ (lawful : Lawful m) (judged : (n : ℕ) → Denotes g u n → Judged m vars said u (state n)) where
        -- on the node that v came to
        judged_at : Denotes g u s → Judged m vars More u (state' s)
        judged_at d = meets_judged m vars More u (λ o. (o ≡ state s) ⊎ (o ≡ some v)) (λ w. (all_under w, under_all w)) (state' s) change.met
          where
            old : (w : ℕ) → Fits m w (state s) ↔ Under m vars said u w
            old = fits_under m vars said u lawful (judged s d)

            all_under : (w : ℕ) → FitsAll m (λ o. (o ≡ state s) ⊎ (o ≡ some v)) w → Under m vars More u w
            all_under w all c came = by_way (came_back c came)
              where
                by_way : Came m vars said u c ⊎ (Joined vars said u p × (v ≡ c)) → m.below w c ≡ true
                by_way (inl before) = (old w).0 (all (state s) (inl refl)) c before
                by_way (inr (j, e)) = subst (λ (z : ℕ). m.below w z ≡ true) e (all (some v) (inr refl))

            fits_each : (w : ℕ) → Under m vars More u w → (o : Option ℕ) → (o ≡ state s) ⊎ (o ≡ some v) → Fits m w o
            fits_each w under o (inl e) = subst (λ (z : Option ℕ). Fits m w z) (sym e) ((old w).1 (λ c came. under c (came_within into_more came)))
            fits_each w under o (inr e) =
                let i = Memᴰ.append_right said (Memᴰ.head refl) in
                subst (λ (z : Option ℕ). Fits m w z) (sym e) (under v (said_of p v i (keep (shape.nothing_else u p s d at-s))))

            under_all : (w : ℕ) → Under m vars More u w → FitsAll m (λ o. (o ≡ state s) ⊎ (o ≡ some v)) w
            under_all w under o e = fits_each w under o e

        -- on another node
        judged_off : (n : ℕ) → Denotes g u n → (n ≡ s → ⊥) → Judged m vars More u (state' n)
        judged_off n d other =
            subst (λ (z : Option ℕ). Judged m vars More u z) (sym (change.others n (shape.inside u n d) other))
            (judged_same (λ c came. came_within into_more came) (λ c came. before c (came_back c came)) (judged n d))
          where
            before : (c : ℕ) → Came m vars said u c ⊎ (Joined vars said u p × (v ≡ c)) → Came m vars said u c
            before c (inl came) = came
            before c (inr (j, e)) = let b = shape.joined u p j in absurd (other (denotes_one g u n b.0 d b.1 ∙ denotes_one g p b.0 s b.2 at-s))

        judged_there : (n : ℕ) → Denotes h u n → Judged m vars More u (state' n)
        judged_there n d = pick (ℕ_discrete n s)
          where
            pick : Dec (n ≡ s) → Judged m vars More u (state' n)
            pick (yes e) = subst (λ (z : ℕ). Judged m vars More u (state' z)) (sym e) (judged_at (subst (λ (z : ℕ). Denotes g u z) e (denotes_back u n d)))
            pick (no other) = judged_off n (denotes_back u n d) other

pub value_stands : ValueStands
value_stands m g h state state' vars said p s v lawful stands at-s change = record {
  shape = shape_there g vars said stands.shape p s v at-s m state h state' change;
  judged = λ u. judged_there g vars said stands.shape p s v at-s m state h state' change u lawful (stands.judged u);
}
