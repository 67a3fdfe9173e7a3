-- A loop along a path: what the path does from the start, its rest does from where the loop has come.
use Rattle.std.proofs.Common.{◌≡◌, ℕ, ◌+◌, ◌<◌, List, ◌∷◌, length, get_or, drop, sym, subst, inl, inr, add-one, arith, drop-cons}
use mathlib.Core.Option.{Option, some, none}
use Rattle.features.specs.Graphs.{Graph, Leads, step}
use Rattle.features.specs.Holding.{Small, also}
use Rattle.growth.specs.Changes.{Grown, follows, adds}
use Rattle.tables.specs.declared.table.Table.{Table}
use Rattle.tables.specs.Growing.{Stepped}
use Rattle.tables.specs.Views.{graph, values}

pub nowhere : {A : Type 0} {x : A} (o : Option A) → o ≡ none → o ≡ some x → ⊥
nowhere o p q = let z : ◌≡◌ {A = ℕ} 0 1 = cc in omega arith

pub same_target : (o : Option ℕ) (j k : ℕ) → o ≡ some j → o ≡ some k → j ≡ k
same_target o j k p q = cc

leads_on : (g : Graph) {n a k e : ℕ} {rest : List ℕ} → g.edge n a ≡ some k → Leads g n (a ∷ rest) e → Leads g k rest e
leads_on g {n} {a} {k} {e} {rest} f (step {k = j} h w) = subst (λ (m : ℕ). Leads g m rest e) (same_target (g.edge n a) j k h f) w

leads_none : (g : Graph) {n a e : ℕ} {rest : List ℕ} → g.edge n a ≡ none → Leads g n (a ∷ rest) e → ⊥
leads_none g {n} {a} f (step h w) = nowhere (g.edge n a) f h

-- the rest of a path is its next attribute and what comes after
pub rest_is : (path : List ℕ) (i : ℕ) → i < length path → drop i path ≡ get_or path i 0 ∷ drop (i + 1) path
rest_is path i l = let e = drop-cons path i 0 l in let f = add-one i in cc

module _ (g : Graph) (path : List ℕ) (i n : ℕ) (l : i < length path) where
  pub leads_more : (k : ℕ) → g.edge n (get_or path i 0) ≡ some k → (e : ℕ) → Leads g k (drop (i + 1) path) e → Leads g n (drop i path) e
  leads_more k f e w = subst (λ (xs : List ℕ). Leads g n xs e) (sym (rest_is path i l)) (step f w)

  pub leads_rest : (k : ℕ) → g.edge n (get_or path i 0) ≡ some k → (e : ℕ) → Leads g n (drop i path) e → Leads g k (drop (i + 1) path) e
  leads_rest k f e w = leads_on g f (subst (λ (xs : List ℕ). Leads g n xs e) (rest_is path i l) w)

  pub leads_nowhere : g.edge n (get_or path i 0) ≡ none → (e : ℕ) → Leads g n (drop i path) e → ⊥
  leads_nowhere f e w = leads_none g f (subst (λ (xs : List ℕ). Leads g n xs e) (rest_is path i l) w)

small_head : {a : ℕ} {rest : List ℕ} → Small (a ∷ rest) → a < 32
small_head (also h rest) = h

small_tail : {a : ℕ} {rest : List ℕ} → Small (a ∷ rest) → Small rest
small_tail (also h rest) = rest

module _ (path : List ℕ) (i : ℕ) (l : i < length path) (s : Small (drop i path)) where
  pub small_here : get_or path i 0 < 32
  small_here = small_head (subst Small (rest_is path i l) s)

  pub small_rest : Small (drop (i + 1) path)
  small_rest = small_tail (subst Small (rest_is path i l) s)

-- one step, and then the rest of the path
grown_step : (v : ℕ) (t u : Table) (n a r : ℕ) → Stepped v n a t u r → (rest : List ℕ) (h : Graph) (state : ℕ → Option ℕ) (e : ℕ)
    → Grown v (graph u) (values u) r rest h state e → Grown v (graph t) (values t) n (a ∷ rest) h state e
grown_step v t u n a r s rest h state e w =
    elim s.stepped [
      | inl p ↦ follows p.0 (subst (λ (x : Table). Grown v (graph x) (values x) r rest h state e) p.1 w)
      | inr p ↦ adds p.0 (subst (λ (x : ℕ). Grown v (graph u) (values u) x rest h state e) p.1 w)
    ]

pub grown_more : (v : ℕ) (t u : Table) (n r : ℕ) (path : List ℕ) (i : ℕ) → i < length path → Stepped v n (get_or path i 0) t u r
    → (h : Graph) (state : ℕ → Option ℕ) (e : ℕ)
    → Grown v (graph u) (values u) r (drop (i + 1) path) h state e → Grown v (graph t) (values t) n (drop i path) h state e
grown_more v t u n r path i l s h state e w =
    subst (λ (xs : List ℕ). Grown v (graph t) (values t) n xs h state e) (sym (rest_is path i l))
    (grown_step v t u n (get_or path i 0) r s (drop (i + 1) path) h state e w)
