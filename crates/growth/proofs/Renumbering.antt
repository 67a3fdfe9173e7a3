-- A renumbered graph stands for what it stood for, and numbered representatives make the graph with two nodes joined.
use mathlib.Core.Path.{◌≡◌, refl, sym, ap, subst, ◌∙◌}
use mathlib.Core.Logic.{◌⊎◌, inl, inr, ◌↔◌}
use mathlib.Core.Option.{Option, some, none, map}
use mathlib.Core.List.{List}
use Prim.Native.Nat.{ℕ, zero, suc, ◌<◌}
use native.Mathlib.Omega.{arith}
use Rattle.kinds.specs.Meaning.{Meaning}
use Rattle.features.specs.Terms.{Term, only, ◌▸◌}
use Rattle.features.specs.Graphs.{Graph, Leads, here, step, Denotes}
use Rattle.features.proofs.Paths.{some_same, some_not_none, leads_more}
use Rattle.growth.specs.Changes.{Quotient}
use Rattle.growth.specs.Joins.{Accessible, Representatives, Numbering, renumbered, RenumberedQuotient, RenumberedDenotes, RenumberedStands, NumberedJoinStands}
use Rattle.growth.proofs.Judging.{meets_same}
use Rattle.growth.proofs.Quotients.{join_stands}

mapped_some : (num : ℕ → ℕ) (o : Option ℕ) (j : ℕ) → map num o ≡ some j → (y : ℕ) × (o ≡ some y) × (num y ≡ j)
mapped_some num none j e = absurd (some_not_none e refl)
mapped_some num (some y) j e = (y, refl, some_same refl e)

module _ (g : Graph) (count : ℕ) (ord num : ℕ → ℕ) (numbers : Numbering g count ord num) where
  -- n has a number
  abbrev Numbered : ℕ → Type 0
  Numbered n = (num n < count) × (ord (num n) ≡ n)

  leads_onward : {n t : ℕ} {xs : List ℕ} → Numbered n → Leads g n xs t → Numbered t × Leads (renumbered g count ord num) (num n) xs (num t)
  leads_onward has here = (has, here)
  leads_onward {n} has (step {a = a} {k = k} e l) =
      let e' : g.edge (ord (num n)) a ≡ some k = ap (λ (z : ℕ). g.edge z a) has.1 ∙ e in
      let r = leads_onward (numbers.edges (num n) a k has.0 e') l in
      (r.0, step (ap (λ (o : Option ℕ). map num o) e') r.1)

  leads_home : {k j : ℕ} {xs : List ℕ} → k < count → Leads (renumbered g count ord num) k xs j → (j < count) × Leads g (ord k) xs (ord j)
  leads_home lt here = (lt, here)
  leads_home {k} lt (step {a = a} {k = i} e l) =
      let y = mapped_some num (g.edge (ord k) a) i e in
      let has = numbers.edges k a y.0 lt y.1 in
      let r = leads_home (subst (λ (z : ℕ). z < count) y.2 has.0) l in
      let same : y.0 ≡ ord i = sym has.1 ∙ ap ord y.2 in
      (r.0, step (subst (λ (z : ℕ). g.edge (ord k) a ≡ some z) same y.1) r.1)

  denotes_onward : (p : Term) (n : ℕ) → Denotes g p n → (num n < count) × (ord (num n) ≡ n) × Denotes (renumbered g count ord num) p (num n)
  denotes_onward p n d = let r = leads_onward (numbers.roots p.var d.0) d.1 in (r.0.0, r.0.1, (d.0, r.1))

  denotes_home : (p : Term) (k : ℕ) → Denotes (renumbered g count ord num) p k → (k < count) × Denotes g p (ord k)
  denotes_home p k d =
      let has = numbers.roots p.var d.0 in
      let r = leads_home has.0 d.1 in
      (r.0, (d.0, subst (λ (z : ℕ). Leads g z p.path (ord k)) has.1 r.1))

pub renumbered_denotes : RenumberedDenotes
renumbered_denotes g count ord num numbers p = (denotes_onward g count ord num numbers p, denotes_home g count ord num numbers p)

pub renumbered_stands : RenumberedStands
renumbered_stands m g state vars said count ord num stands numbers = record {
  shape = record {
    all = stands.shape.all;
    joined = λ p q j. let d = stands.shape.joined p q j in (num d.0, (onward p d.0 d.1).2, (onward q d.0 d.2).2);
    nothing_else = λ p q k d e. stands.shape.nothing_else p q (ord k) (home p k d).1 (home q k e).1;
    reached = λ k lt.
        let r = stands.shape.reached (ord k) (numbers.inside k lt) in
        (r.0, subst (λ (z : ℕ). Denotes (renumbered g count ord num) r.0 z) (numbers.numbered k lt) (onward r.0 (ord k) r.1).2);
    inside = λ p k d. (home p k d).0;
  };
  judged = λ p k d. stands.judged p (ord k) (home p k d).1;
}
  where
    onward : (p : Term) (n : ℕ) → Denotes g p n → (num n < count) × (ord (num n) ≡ n) × Denotes (renumbered g count ord num) p (num n)
    onward = denotes_onward g count ord num numbers

    home : (p : Term) (k : ℕ) → Denotes (renumbered g count ord num) p k → (k < count) × Denotes g p (ord k)
    home = denotes_home g count ord num numbers

module _ (m : Meaning) (s t : ℕ) (g h : Graph) (state state' : ℕ → Option ℕ) (rep : ℕ → ℕ) (count : ℕ) (ord num : ℕ → ℕ) (accessible : Accessible g) (reps : Representatives m s t g state rep h state') (numbers : Numbering h count ord num) where
  edge_inside : {x a y : ℕ} → x < g.nodes → g.edge x a ≡ some y → y < g.nodes
  edge_inside {x} {a} {y} lt e = let r = accessible.reached x lt in accessible.inside (r.0 ▸ a) y (r.1.0, leads_more r.1.1 e)

  represented : {x y : ℕ} {xs : List ℕ} → x < g.nodes → Leads g x xs y → Leads h (rep x) xs (rep y)
  represented lt here = here
  represented {x} lt (step {a = a} {k = k} e l) = step (reps.edges x a k lt e) (represented (edge_inside lt e) l)

  -- the representative of x has a number
  numbered : (x : ℕ) → x < g.nodes → Numbered h count ord num numbers (rep x)
  numbered x lt =
      let r = accessible.reached x lt in
      let root_in = accessible.inside (only r.0.var) (g.root r.0.var) (r.1.0, here) in
      let d : Denotes h r.0 (rep x) = (subst (λ (z : ℕ). r.0.var < z) (sym reps.vars) r.1.0, subst (λ (z : ℕ). Leads h z r.0.path (rep x)) (sym (reps.roots r.0.var r.1.0)) (represented root_in r.1.1)) in
      let o = denotes_onward h count ord num numbers r.0 (rep x) d in
      (o.0, o.1)

  ord_inside : (k : ℕ) → k < count → ord k < g.nodes
  ord_inside k lt = subst (λ (z : ℕ). ord k < z) reps.nodes (numbers.inside k lt)

  -- what has a number is a representative
  chosen_below : (b k : ℕ) → k < b → k < count → rep (ord k) ≡ ord k
  chosen_below zero k less lt = absurd (omega arith)
  chosen_below (suc b) k less lt = by_way (numbers.found k lt) (λ j l. chosen_below b j (omega arith) (omega arith))
    where
      by_way : ((x : ℕ) × (x < h.vars) × (h.root x ≡ ord k)) ⊎ ((j : ℕ) × (a : ℕ) × (j < k) × (h.edge (ord j) a ≡ some (ord k))) → ((j : ℕ) → j < k → rep (ord j) ≡ ord j) → rep (ord k) ≡ ord k
      by_way (inl (x, var-in, e)) before =
          let in_g : x < g.vars = subst (λ (z : ℕ). x < z) reps.vars var-in in
          let is_rep : ord k ≡ rep (g.root x) = sym e ∙ reps.roots x in_g in
          ap rep is_rep ∙ reps.itself (g.root x) (accessible.inside (only x) (g.root x) (in_g, here)) ∙ sym is_rep
      by_way (inr (j, a, l, e)) before =
          let r = reps.no_others (ord j) a (ord k) (ord_inside j (omega arith)) (before j l) e in
          ap rep (sym r.5) ∙ reps.itself r.1 (edge_inside r.2 r.4) ∙ r.5

  chosen : (k : ℕ) → k < count → rep (ord k) ≡ ord k
  chosen k lt = chosen_below (suc k) k (omega arith) lt

  -- x is represented by the node of k just where its number is k
  same_number : (x k : ℕ) → x < g.nodes → k < count → (rep x ≡ ord k) ↔ (num (rep x) ≡ k)
  same_number x k in_g lt = (λ e. ap num e ∙ numbers.numbered k lt, λ e. sym (numbered x in_g).1 ∙ ap ord e)

  on_quotient : Quotient m s t g state (λ x. num (rep x)) (renumbered h count ord num) (λ k. state' (ord k))
  on_quotient = record {
    vars = reps.vars;
    inside = λ x lt. (numbered x lt).0;
    onto = λ k lt. (ord k, ord_inside k lt, ap num (chosen k lt) ∙ numbers.numbered k lt);
    roots = λ x lt. ap num (reps.roots x lt);
    edges = λ x a y lt e. ap (λ (o : Option ℕ). map num o) (ap (λ (z : ℕ). h.edge z a) (numbered x lt).1 ∙ reps.edges x a y lt e);
    no_others = λ k a j lt e.
        let y = mapped_some num (h.edge (ord k) a) j e in
        let r = reps.no_others (ord k) a y.0 (ord_inside k lt) (chosen k lt) y.1 in
        (r.0, r.1, r.2, (same_number r.0 k r.2 lt).0 r.3, r.4, ap num r.5 ∙ y.2);
    pair = ap num reps.pair;
    nothing_else = λ x y in-x in-y e. reps.nothing_else x y in-x in-y (sym (numbered x in-x).1 ∙ ap ord e ∙ (numbered y in-y).1);
    met = λ k lt.
        meets_same m (λ o. (x : ℕ) × (x < g.nodes) × (rep x ≡ ord k) × (o ≡ state x)) (λ o. (x : ℕ) × (x < g.nodes) × (num (rep x) ≡ k) × (o ≡ state x))
        (λ o. (λ r. (r.0, r.1, (same_number r.0 k r.1 lt).0 r.2, r.3), λ r. (r.0, r.1, (same_number r.0 k r.1 lt).1 r.2, r.3)))
        (state' (ord k)) (reps.met (ord k) (ord_inside k lt) (chosen k lt));
  }

pub renumbered_quotient : RenumberedQuotient
renumbered_quotient m s t g h state state' rep count ord num accessible reps numbers = on_quotient m s t g h state state' rep count ord num accessible reps numbers

pub numbered_join_stands : NumberedJoinStands
numbered_join_stands m g h state state' vars said p q s t rep count ord num lawful stands at-s at-t reps numbers =
    let accessible : Accessible g = record { reached = stands.shape.reached; inside = stands.shape.inside } in
    join_stands m g (renumbered h count ord num) state (λ k. state' (ord k)) vars said p q s t (λ x. num (rep x)) lawful stands at-s at-t
    (renumbered_quotient m s t g h state state' rep count ord num accessible reps numbers)
