-- Every node that a term denotes has a first term, where attributes are bounded.
use Rattle.std.proofs.Common.{◌≡◌, ℕ, zero, suc, ◌<◌, ◌⊎◌, List, [], ◌∷◌, length, refl, ap, ◌∙◌, subst, inl, inr, arith}
use mathlib.Core.Option.{Option, some, none}
use native.Mathlib.Decide.{dec_lt, ℕ_discrete}
use Rattle.features.specs.Terms.{Term}
use Rattle.features.specs.Graphs.{Graph, Leads, here, step, Denotes}
use Rattle.features.specs.Order.{Before, ◌≺◌, Trail}
use Rattle.features.specs.Theorems.{EveryNodeHasOneTrail}
use Rattle.features.proofs.Paths.{some_same, some_not_none}
use Rattle.features.proofs.TotalOrder.{trail_same}

-- a is the least number below b with P, where Q says that there is none
pub record Least (P Q : ℕ → Type 0) (b : ℕ) : Type 0 where
  pub at : ℕ
  pub below : at < b
  pub has : P at
  pub none_before : (c : ℕ) → c < at → Q c

pub least : (P Q : ℕ → Type 0) (b : ℕ) → ((a : ℕ) → a < b → P a ⊎ Q a) → Least P Q b ⊎ ((c : ℕ) → c < b → Q c)
least P Q zero decide = inr (λ c l. absurd (omega arith))
least P Q (suc b) decide = with_last (least P Q b (λ a l. decide a (omega arith))) (decide b (omega arith))
  where
    up_to : ((c : ℕ) → c < b → Q c) → Q b → (c : ℕ) → c < suc b → Q c
    up_to before last c l = elim (dec_lt c b) [ yes h ↦ before c h | no h ↦ subst Q (omega arith) last ]

    with_last : Least P Q b ⊎ ((c : ℕ) → c < b → Q c) → P b ⊎ Q b → Least P Q (suc b) ⊎ ((c : ℕ) → c < suc b → Q c)
    with_last (inl r) last = inl (record { at = r.at; below = omega (arith, r.below); has = r.has; none_before = r.none_before })
    with_last (inr before) (inl p) = inl (record { at = b; below = omega arith; has = p; none_before = before })
    with_last (inr before) (inr q) = inr (up_to before q)

-- no path of this length leads from k to n
abbrev NoPath : Graph → ℕ → ℕ → ℕ → Type 0
NoPath g size k n = (xs : List ℕ) → length xs ≡ size → Leads g k xs n → ⊥

-- the first path of this length from k to n
record FirstPath (g : Graph) (size k n : ℕ) : Type 0 where
  path : List ℕ
  long : length path ≡ size
  leads : Leads g k path n
  first : (xs : List ℕ) → length xs ≡ size → Leads g k xs n → Before xs path → ⊥

leads_end : {g : Graph} {k n : ℕ} → Leads g k [] n → k ≡ n
leads_end here = refl

leads_on : {g : Graph} {k n x : ℕ} {rest : List ℕ} → Leads g k (x ∷ rest) n → (j : ℕ) × (g.edge k x ≡ some j) × Leads g j rest n
leads_on (step {k = j} e l) = (j, e, l)

module _ (g : Graph) (n : ℕ) where
  -- a path of one attribute more begins with a
  abbrev Through : ℕ → ℕ → ℕ → Type 0
  Through size k a = (t : ℕ) × (g.edge k a ≡ some t) × FirstPath g size t n

  abbrev NotThrough : ℕ → ℕ → ℕ → Type 0
  NotThrough size k a = (t : ℕ) → g.edge k a ≡ some t → NoPath g size t n

  no_steps : (k : ℕ) → FirstPath g 0 k n ⊎ NoPath g 0 k n
  no_steps k = by_end (ℕ_discrete k n)
    where
      never_before : (xs : List ℕ) → Before xs [] → ⊥
      never_before [] b = b
      never_before (x ∷ xs) b = b

      not_here : (k ≡ n → ⊥) → (xs : List ℕ) → length xs ≡ 0 → Leads g k xs n → ⊥
      not_here other [] e l = other (leads_end l)
      not_here other (x ∷ xs) e l = omega (arith, e)

      by_end : Dec (k ≡ n) → FirstPath g 0 k n ⊎ NoPath g 0 k n
      by_end (yes e) = inl (record { path = []; long = refl; leads = subst (λ (z : ℕ). Leads g k [] z) e here; first = λ xs len l. never_before xs })
      by_end (no other) = inr (not_here other)

  module _ (size k : ℕ) where
    begin_with : (r : Least (Through size k) (NotThrough size k) 32) → FirstPath g (suc size) k n
    begin_with r = record { path = r.at ∷ r.has.2.path; long = ap suc r.has.2.long; leads = step r.has.1 r.has.2.leads; first = none_first }
      where
        none_first : (xs : List ℕ) → length xs ≡ suc size → Leads g k xs n → Before xs (r.at ∷ r.has.2.path) → ⊥
        none_first [] e l b = b
        none_first (x ∷ xs) e l (inl h) = let m = leads_on l in r.none_before x h m.0 m.1 xs (omega (arith, e)) m.2
        none_first (x ∷ xs) e l (inr h) =
            let m = leads_on l in
            let same : m.0 ≡ r.has.0 = edge_same m.1 h.0 r.has.1 in
            r.has.2.first xs (omega (arith, e)) (subst (λ (z : ℕ). Leads g z xs n) same m.2) h.1
          where
            edge_same : {y a b : ℕ} → g.edge k x ≡ some a → x ≡ y → g.edge k y ≡ some b → a ≡ b
            edge_same p q s = cc

  -- edges and variables stay inside, and attributes are below 32
  module _ (edges : (k a t : ℕ) → k < g.nodes → g.edge k a ≡ some t → (a < 32) × (t < g.nodes)) (roots : (x : ℕ) → x < g.vars → g.root x < g.nodes) where
    one_more : (size : ℕ) → ((k : ℕ) → k < g.nodes → FirstPath g size k n ⊎ NoPath g size k n) → (k : ℕ) → k < g.nodes → FirstPath g (suc size) k n ⊎ NoPath g (suc size) k n
    one_more size shorter k lt = by_first (least (Through size k) (NotThrough size k) 32 (λ a l. by_edge a (g.edge k a) refl))
      where
        by_rest : (a t : ℕ) → g.edge k a ≡ some t → FirstPath g size t n ⊎ NoPath g size t n → Through size k a ⊎ NotThrough size k a
        by_rest a t e (inl p) = inl (t, e, p)
        by_rest a t e (inr q) = inr (λ u f. subst (λ (z : ℕ). NoPath g size z n) (some_same e f) q)

        by_edge : (a : ℕ) (o : Option ℕ) → g.edge k a ≡ o → Through size k a ⊎ NotThrough size k a
        by_edge a none e = inr (λ t f. absurd (some_not_none f e))
        by_edge a (some t) e = by_rest a t e (shorter t (edges k a t lt e).1)

        never : ((a : ℕ) → a < 32 → NotThrough size k a) → NoPath g (suc size) k n
        never h [] e l = omega (arith, e)
        never h (x ∷ xs) e l = let m = leads_on l in h x (edges k x m.0 lt m.1).0 m.0 m.1 xs (omega (arith, e)) m.2

        by_first : Least (Through size k) (NotThrough size k) 32 ⊎ ((a : ℕ) → a < 32 → NotThrough size k a) → FirstPath g (suc size) k n ⊎ NoPath g (suc size) k n
        by_first (inl r) = inl (begin_with size k r)
        by_first (inr h) = inr (never h)

    first_path : (size k : ℕ) → k < g.nodes → FirstPath g size k n ⊎ NoPath g size k n
    first_path zero k lt = no_steps k
    first_path (suc size) k lt = one_more size (first_path size) k lt

    abbrev From : ℕ → ℕ → Type 0
    From size x = FirstPath g size (g.root x) n

    abbrev NotFrom : ℕ → ℕ → Type 0
    NotFrom size x = NoPath g size (g.root x) n

    abbrev NoTerm : ℕ → Type 0
    NoTerm size = (x : ℕ) → x < g.vars → NotFrom size x

    first_trail : {b : ℕ} → Least (λ size. Least (From size) (NotFrom size) g.vars) NoTerm b → (t : Term) × Trail g n t
    first_trail r =
        let t : Term = record { var = r.has.at; path = r.has.has.path } in
        (t, record { denotes = (r.has.below, r.has.has.leads); first = none_first })
      where
        none_first : (p : Term) → Denotes g p n → p ≺ record { var = r.has.at; path = r.has.has.path } → ⊥
        none_first p d (inl h) = r.none_before (length p.path) (omega (arith, r.has.has.long)) p.var d.0 p.path refl d.1
        none_first p d (inr (e, inl h)) = r.has.none_before p.var h p.path (e ∙ r.has.has.long) d.1
        none_first p d (inr (e, inr (same, h))) = r.has.has.first p.path (e ∙ r.has.has.long) (subst (λ (z : ℕ). Leads g (g.root z) p.path n) same d.1) h

    -- the first term that denotes n, where one does
    pub trail_there : (p : Term) → Denotes g p n → (t : Term) × Trail g n t
    trail_there p d = pick (least (λ size. Least (From size) (NotFrom size) g.vars) NoTerm (suc (length p.path)) (λ size l. least (From size) (NotFrom size) g.vars (λ x h. first_path size (g.root x) (roots x h))))
      where
        pick : Least (λ size. Least (From size) (NotFrom size) g.vars) NoTerm (suc (length p.path)) ⊎ ((size : ℕ) → size < suc (length p.path) → NoTerm size) → (t : Term) × Trail g n t
        pick (inl r) = first_trail r
        pick (inr none-at) = absurd (none-at (length p.path) (omega arith) p.var d.0 p.path refl d.1)

pub one_trail : EveryNodeHasOneTrail
one_trail m g feature p n d =
    let r = trail_there g n feature.edges feature.roots p d in
    (r.0, r.1, λ s trail. trail_same g n s r.0 trail r.1)
