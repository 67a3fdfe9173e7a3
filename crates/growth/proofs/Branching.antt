-- One node more, at an attribute that its node lacked.
use mathlib.Core.Path.{◌≡◌, refl, sym, ap, subst, subst₂, ◌∙◌}
use mathlib.Core.Logic.{◌⊎◌, inl, inr}
use mathlib.Core.Option.{Option, some}
use mathlib.Core.List.Memᴰ
use mathlib.Core.List.{List, [], ◌∷◌, ◌++◌, Memᴰ}
use Prim.Native.Nat.{ℕ, ◌<◌}
use native.Mathlib.Omega.{arith}
use native.Mathlib.Decide.{ℕ_discrete}
use Rattle.kinds.specs.Meaning.{Meaning, Lawful}
use Rattle.features.specs.Terms.{Term, Statement, is, ◌▸◌}
use Rattle.features.specs.Graphs.{Graph, Leads, here, step, Denotes}
use Rattle.features.specs.Closing.{Joined, given, turned, chained, beneath}
use Rattle.features.proofs.Paths.{leads_more, some_same, some_not_none}
use Rattle.growth.specs.Standing.{Shape, Stands}
use Rattle.growth.specs.Changes.{NewNode}
use Rattle.growth.proofs.Agreeing.{Agreed, Agrees, shape_agrees}
use Rattle.growth.proofs.Keeping.{edge_inside, root_inside, denotes_kept, agrees_kept, bare_ends}
use Rattle.growth.proofs.Redundant.{said_follows, joined_widens}
use Rattle.growth.proofs.Extending.{Extends, extended_stands}

module _ (g h : Graph) (vars : ℕ) (said : List Statement) (shape : Shape g vars said) (v n a : ℕ) (state state' : ℕ → Option ℕ) (new : NewNode v n a g state h state') where
  pub branch_keeps : (p : Term) (k : ℕ) → Denotes g p k → Denotes h p k
  branch_keeps = denotes_kept g vars said shape h new.kept.roots (omega (arith, new.vars)) kept_edge
    where
      kept_edge : (k b j : ℕ) → k < g.nodes → g.edge k b ≡ some j → h.edge k b ≡ some j
      kept_edge k b j lt e = new.edges k b lt (λ x y. some_not_none (subst₂ (λ (i l : ℕ). g.edge i l ≡ some j) x y e) new.lacked) ∙ e

  -- a path of h is one of g, or it leads to n in g and then by a to the new node
  abbrev Split : ℕ → List ℕ → ℕ → Type 0
  Split r xs t = Leads g r xs t ⊎ ((ys : List ℕ) × (xs ≡ ys ++ (a ∷ [])) × Leads g r ys n × (t ≡ g.nodes))

  split_edge : (r b k t : ℕ) (rest : List ℕ) → g.edge r b ≡ some k → Split k rest t → Split r (b ∷ rest) t
  split_edge r b k t rest e (inl l) = inl (step e l)
  split_edge r b k t rest e (inr s) = inr (b ∷ s.0, ap {B = List ℕ} (λ r. b ∷ r) s.1, step e s.2, s.3)

  split_old : (r b k t : ℕ) (rest : List ℕ) → r < g.nodes → h.edge r b ≡ some k → (k < g.nodes → Split k rest t) → ((r ≡ n) → (b ≡ a) → ⊥) → Split r (b ∷ rest) t
  split_old r b k t rest lt e later other =
      let e' : g.edge r b ≡ some k = sym (new.edges r b lt other) ∙ e in
      split_edge r b k t rest e' (later (edge_inside g vars said shape r b k lt e'))

  split_step : (r b k t : ℕ) (rest : List ℕ) → r < g.nodes → h.edge r b ≡ some k → Leads h k rest t → (k < g.nodes → Split k rest t) → Dec (r ≡ n) → Dec (b ≡ a) → Split r (b ∷ rest) t
  split_step r b k t rest lt e l later (yes x) (yes y) =
      let f : k ≡ g.nodes = some_same (subst₂ (λ (i j : ℕ). h.edge i j ≡ some k) x y e) new.leads in
      let z = bare_ends h g.nodes new.bare f l in
      inr ([], cc (y, z.0), subst (λ (i : ℕ). Leads g i [] n) (sym x) here, z.1)
  split_step r b k t rest lt e l later (yes x) (no y) = split_old r b k t rest lt e later (λ i j. y j)
  split_step r b k t rest lt e l later (no x) d = split_old r b k t rest lt e later (λ i j. x i)

  leads_split : {r t : ℕ} {xs : List ℕ} → r < g.nodes → Leads h r xs t → Split r xs t
  leads_split lt here = inl here
  leads_split {r} {t} lt (step {a = b} {k = k} {rest = rest} e l) = split_step r b k t rest lt e l (λ in_g. leads_split in_g l) (ℕ_discrete r n) (ℕ_discrete b a)

  -- a term that denotes n in g, and then a
  abbrev pub Branch : Term → Type 0
  Branch q = (w : Term) × Denotes g w n × (q ≡ w ▸ a)

  pub branch_splits : (q : Term) (k : ℕ) → Denotes h q k → Denotes g q k ⊎ (Branch q × (k ≡ g.nodes))
  branch_splits q k d = pick (leads_split (root_inside g vars said shape q.var x) (rw (new.kept.roots q.var x) at d.1))
    where
      x : q.var < g.vars
      x = omega (arith, d.0, new.vars)

      pick : Split (g.root q.var) q.path k → Denotes g q k ⊎ (Branch q × (k ≡ g.nodes))
      pick (inl l) = inl (x, l)
      pick (inr s) =
          let w : Term = record { var = q.var; path = s.0 } in
          inr ((w, (x, s.2), λ i. record { var = q.var; path = s.1 i }), s.3)

module _ (m : Meaning) (lawful : Lawful m) (g h : Graph) (state state' : ℕ → Option ℕ) (vars : ℕ) (said : List Statement) (p : Term) (n a : ℕ) (stands : Stands m g state vars said) (there : Denotes g p n) (new : NewNode m.top n a g state h state') where
  abbrev added : Statement
  added = is (p ▸ a) m.top

  abbrev said' : List Statement
  said' = said ++ (added ∷ [])

  keeps : (q : Term) (k : ℕ) → Denotes g q k → Denotes h q k
  keeps = branch_keeps g h vars said stands.shape m.top n a state state' new

  denotes_new : Denotes h (p ▸ a) g.nodes
  denotes_new = let d = keeps p n there in (d.0, leads_more d.1 new.leads)

  agrees : Agrees h said'
  agrees s i = pick (Memᴰ.append_cases said i)
    where
      pick : Memᴰ s said ⊎ Memᴰ s (added ∷ []) → Agreed h s
      pick (inl j) = agrees_kept keeps (shape_agrees g vars said stands.shape) s j
      pick (inr j) = subst (Agreed h) (sym (Memᴰ.eq_of_singleton j)) (g.nodes, denotes_new)

  from_p : (q : Term) → Branch g h vars said stands.shape m.top n a state state' new q → Joined vars said' (p ▸ a) q
  from_p q (w, d, e) =
      let j : Joined vars said' p w = joined_widens {m = m} (omega arith) (λ s i. said_follows m vars s (Memᴰ.append_left (added ∷ []) i)) (stands.shape.nothing_else p w n there d) in
      subst (λ (z : Term). Joined vars said' (p ▸ a) z) (sym e) (beneath p w a j (given (p ▸ a) m.top (Memᴰ.append_right said (Memᴰ.head refl))))

  tops : (q : Term) (v : ℕ) → Memᴰ (is q v) said' → Memᴰ (is q v) said ⊎ (v ≡ m.top)
  tops q v i = pick (Memᴰ.append_cases said i)
    where
      pick : Memᴰ (is q v) said ⊎ Memᴰ (is q v) (added ∷ []) → Memᴰ (is q v) said ⊎ (v ≡ m.top)
      pick (inl j) = inl j
      pick (inr j) = let e : is q v ≡ added = Memᴰ.eq_of_singleton j in inr cc

  pub new_node_stands : Stands m h state' vars said' × ((q : Term) (k : ℕ) → Denotes g q k → Denotes h q k)
  new_node_stands = (extended_stands m lawful g h state state' vars vars said said' _ stands extends new.kept.states new.stands, keeps)
    where
      extends : Extends m g vars said (Branch g h vars said stands.shape m.top n a state state' new) h vars said'
      extends = record {
        nodes = new.nodes;
        all = new.vars ∙ stands.shape.all;
        declared = omega arith;
        keeps = keeps;
        splits = branch_splits g h vars said stands.shape m.top n a state state' new;
        new = (p ▸ a, denotes_new);
        new_joined = λ q r b c. chained q (p ▸ a) r (turned (p ▸ a) q (from_p q b)) (from_p r c);
        more = λ s i. Memᴰ.append_left (added ∷ []) i;
        agrees = agrees;
        tops = tops;
      }
