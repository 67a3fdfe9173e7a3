-- Where paths lead in a graph: to one node at most, inside it, and attribute by attribute.
use Rattle.std.proofs.Common.{◌≡◌, ℕ, ◌<◌, List, [], ◌∷◌, ◌++◌, refl, subst, arith}
use mathlib.Core.Option.{Option, some, none}
use Rattle.kinds.specs.Meaning.{Meaning}
use Rattle.features.specs.Terms.{Term}
use Rattle.features.specs.Graphs.{Graph, Feature, Leads, here, step, Denotes}

pub some_same : {x y : ℕ} {o : Option ℕ} → o ≡ some x → o ≡ some y → x ≡ y
some_same p q = cc

pub some_not_none : {x : ℕ} {o : Option ℕ} → o ≡ some x → o ≡ none → ⊥
some_not_none p q = let z : ◌≡◌ {A = ℕ} 0 1 = cc in omega arith

-- what leads nowhere is no edge
pub none_without : (o : Option ℕ) → ((t : ℕ) → o ≡ some t → ⊥) → o ≡ none
none_without none h = refl
none_without (some t) h = absurd (h t refl)

module _ {g : Graph} where
  -- a path leads to one node at most
  pub leads_same : {n t u : ℕ} {xs : List ℕ} → Leads g n xs t → Leads g n xs u → t ≡ u
  leads_same here here = refl
  leads_same (step {n = n} {a = a} {t = t} {rest = rest} e l) (step {k = k'} e' l') =
      leads_same (subst (λ (z : ℕ). Leads g z rest t) (some_same e e') l) l'

  -- one attribute more
  pub leads_more : {n k t a : ℕ} {xs : List ℕ} → Leads g n xs k → g.edge k a ≡ some t → Leads g n (xs ++ (a ∷ [])) t
  leads_more here e = step e here
  leads_more (step f l) e = step f (leads_more l e)

  -- one attribute less
  pub leads_back : {t a : ℕ} (xs : List ℕ) {n : ℕ} → Leads g n (xs ++ (a ∷ [])) t → (k : ℕ) × Leads g n xs k × (g.edge k a ≡ some t)
  leads_back [] {n} (step e here) = (n, here, e)
  leads_back (x ∷ xs) (step f l) = let r = leads_back xs l in (r.0, step f r.1, r.2)

-- a term denotes one node at most
pub denotes_one : (g : Graph) (p : Term) (n k : ℕ) → Denotes g p n → Denotes g p k → n ≡ k
denotes_one g p n k a b = leads_same a.1 b.1

-- where edges stay inside, paths do
pub leads_inside : {g : Graph} → ((n a t : ℕ) → n < g.nodes → g.edge n a ≡ some t → t < g.nodes) → {n t : ℕ} {xs : List ℕ} → n < g.nodes → Leads g n xs t → t < g.nodes
leads_inside edges lt here = lt
leads_inside edges {n} lt (step {a = a} {k = k} e l) = leads_inside edges (edges n a k lt e) l

-- a term denotes a node inside a feature graph
pub feature_inside : (m : Meaning) (g : Graph) → Feature m g → (p : Term) (n : ℕ) → Denotes g p n → n < g.nodes
feature_inside m g feature p n d = leads_inside (λ n a t lt e. (feature.edges n a t lt e).1) (feature.roots p.var d.0) d.1
