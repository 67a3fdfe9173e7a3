-- Terms keep their nodes where roots and edges are kept.
use mathlib.Core.Path.{◌≡◌, refl, sym, subst, ◌∙◌}
use mathlib.Core.Option.{some, none}
use mathlib.Core.List.{List, []}
use Prim.Native.Nat.{ℕ, ◌<◌, ◌≤◌}
use native.Mathlib.Omega.{arith}
use Rattle.features.specs.Terms.{Term, Statement, equals, is, apart, only, ◌▸◌}
use Rattle.features.specs.Graphs.{Graph, Leads, here, step, Denotes}
use Rattle.features.proofs.Paths.{leads_more, some_not_none}
use Rattle.growth.specs.Standing.{Shape}
use Rattle.growth.proofs.Agreeing.{Agrees}

module _ (g : Graph) (vars : ℕ) (said : List Statement) (shape : Shape g vars said) where
  -- an edge leads inside
  pub edge_inside : (n a k : ℕ) → n < g.nodes → g.edge n a ≡ some k → k < g.nodes
  edge_inside n a k lt e = let r = shape.reached n lt in shape.inside (r.0 ▸ a) k (r.1.0, leads_more r.1.1 e)

  pub root_inside : (x : ℕ) → x < g.vars → g.root x < g.nodes
  root_inside x lt = shape.inside (only x) (g.root x) (lt, here)

  module _ (h : Graph) (roots : (x : ℕ) → x < g.vars → h.root x ≡ g.root x) where
    pub denotes_kept : g.vars ≤ h.vars → ((n a k : ℕ) → n < g.nodes → g.edge n a ≡ some k → h.edge n a ≡ some k) → (p : Term) (n : ℕ) → Denotes g p n → Denotes h p n
    denotes_kept le edges p n d = (omega (arith, d.0), rw (roots p.var d.0) (leads_kept (root_inside p.var d.0) d.1))
      where
        leads_kept : {k t : ℕ} {xs : List ℕ} → k < g.nodes → Leads g k xs t → Leads h k xs t
        leads_kept lt here = here
        leads_kept {k} lt (step {a = a} {k = j} e l) = step (edges k a j lt e) (leads_kept (edge_inside k a j lt e) l)

    pub denotes_before : ((n a : ℕ) → n < g.nodes → h.edge n a ≡ g.edge n a) → (p : Term) (n : ℕ) → p.var < g.vars → Denotes h p n → Denotes g p n
    denotes_before edges p n x d = (x, leads_before (root_inside p.var x) (rw (roots p.var x) at d.1))
      where
        leads_before : {k t : ℕ} {xs : List ℕ} → k < g.nodes → Leads h k xs t → Leads g k xs t
        leads_before lt here = here
        leads_before {k} lt (step {a = a} {k = j} e l) =
            let e' : g.edge k a ≡ some j = sym (edges k a lt) ∙ e in
            step e' (leads_before (edge_inside k a j lt e') l)

-- a graph to which terms send their nodes agrees with the same statements
pub agrees_sent : {g h : Graph} {said : List Statement} (f : ℕ → ℕ) → ((p : Term) (n : ℕ) → Denotes g p n → Denotes h p (f n)) → Agrees g said → Agrees h said
agrees_sent f sends agrees (equals p q) i = let d = agrees (equals p q) i in (f d.0, sends p d.0 d.1, sends q d.0 d.2)
agrees_sent f sends agrees (is p v) i = let d = agrees (is p v) i in (f d.0, sends p d.0 d.1)
agrees_sent f sends agrees (apart p q) i = tt

-- and so does one in which they keep them
pub agrees_kept : {g h : Graph} {said : List Statement} → ((p : Term) (n : ℕ) → Denotes g p n → Denotes h p n) → Agrees g said → Agrees h said
agrees_kept keeps agrees = agrees_sent (λ n. n) keeps agrees

-- from a node without attributes only the empty path leads on
pub bare_ends : (h : Graph) (k : ℕ) → ((a : ℕ) → h.edge k a ≡ none) → {n t : ℕ} {xs : List ℕ} → n ≡ k → Leads h n xs t → (xs ≡ []) × (t ≡ k)
bare_ends h k bare e here = (refl, e)
bare_ends h k bare e (step {a = a} s l) = absurd (some_not_none s (subst (λ (z : ℕ). h.edge z a ≡ none) (sym e) (bare a)))
