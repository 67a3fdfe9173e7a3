-- Where a term leads, computed; and which values are said of a node.
use Rattle.std.proofs.Common.{◌≡◌, ℕ, Bool, true, false, cond, eqb, ltb, List, [], ◌∷◌, sym, refl, ap, ◌∙◌, subst, arith}
use mathlib.Core.Option.{Option, some, none}
use mathlib.Core.List.{Memᴰ}
use Rattle.std.proofs.lemmas.Bool.{ltb-true, lt-ltb, eqb-true, eq-eqb}
use Rattle.features.specs.Terms.{Term, Statement, equals, is, apart}
use Rattle.features.specs.Graphs.{Graph, Leads, here, step, Denotes}

abbrev onward : Option ℕ → (ℕ → Option ℕ) → Option ℕ
onward none f = none
onward (some n) f = f n

abbrev follow : Graph → ℕ → List ℕ → Option ℕ
follow g n [] = some n
follow g n (a ∷ rest) = onward (g.edge n a) (λ k. follow g k rest)

-- the node that a term denotes, where it denotes one
abbrev pub reach : Graph → Term → Option ℕ
reach g t = cond (ltb t.var g.vars) (follow g (g.root t.var) t.path) none

module _ (g : Graph) where
  leads_follow : {n t : ℕ} {xs : List ℕ} → Leads g n xs t → follow g n xs ≡ some t
  leads_follow here = refl
  leads_follow (step {rest = rest} e l) = ap (λ (o : Option ℕ). onward o (λ k. follow g k rest)) e ∙ leads_follow l

  follow_leads : (xs : List ℕ) (n t : ℕ) → follow g n xs ≡ some t → Leads g n xs t
  follow_leads [] n t e = let same : n ≡ t = cc in subst (λ (z : ℕ). Leads g n [] z) same here
  follow_leads (a ∷ rest) n t e = by_edge (λ k h. follow_leads rest k t h) (g.edge n a) refl e
    where
      by_edge : ((k : ℕ) → follow g k rest ≡ some t → Leads g k rest t) → (o : Option ℕ) → g.edge n a ≡ o → onward o (λ k. follow g k rest) ≡ some t → Leads g n (a ∷ rest) t
      by_edge from none f h = absurd (let z : ◌≡◌ {A = ℕ} 0 1 = cc in omega arith)
      by_edge from (some k) f h = step f (from k h)

  pub denotes_reach : (p : Term) (n : ℕ) → Denotes g p n → reach g p ≡ some n
  denotes_reach p n d = ap (λ (b : Bool). cond b (follow g (g.root p.var) p.path) none) (lt-ltb p.var g.vars d.0) ∙ leads_follow d.1

  pub reach_denotes : (p : Term) (n : ℕ) → reach g p ≡ some n → Denotes g p n
  reach_denotes p n e = by_test (ltb p.var g.vars) refl e
    where
      by_test : (b : Bool) → ltb p.var g.vars ≡ b → cond b (follow g (g.root p.var) p.path) none ≡ some n → Denotes g p n
      by_test true f h = (ltb-true p.var g.vars f, follow_leads p.path (g.root p.var) n h)
      by_test false f h = absurd (let z : ◌≡◌ {A = ℕ} 0 1 = cc in omega arith)

abbrev at_node : ℕ → Option ℕ → Bool
at_node n none = false
at_node n (some k) = eqb n k

-- the values said of node n, in their order
abbrev pub said_at : Graph → ℕ → List Statement → List ℕ
said_at g n [] = []
said_at g n (equals p q ∷ rest) = said_at g n rest
said_at g n (is p v ∷ rest) = cond (at_node n (reach g p)) (v ∷ said_at g n rest) (said_at g n rest)
said_at g n (apart p q ∷ rest) = said_at g n rest

module _ (g : Graph) (n : ℕ) where
  at_denotes : (p : Term) → at_node n (reach g p) ≡ true → Denotes g p n
  at_denotes p e = by_node (reach g p) refl e
    where
      by_node : (o : Option ℕ) → reach g p ≡ o → at_node n o ≡ true → Denotes g p n
      by_node none f h = absurd (let z : ◌≡◌ {A = ℕ} 0 1 = cc in omega arith)
      by_node (some k) f h = reach_denotes g p n (f ∙ ap {B = Option ℕ} some (sym (eqb-true n k h)))

  denotes_at : (p : Term) → Denotes g p n → at_node n (reach g p) ≡ true
  denotes_at p d = ap (at_node n) (denotes_reach g p n d) ∙ eq-eqb n n refl

  -- a value said of a term that denotes n is said of n
  pub said_there : {p : Term} {v : ℕ} (said : List Statement) → Memᴰ (is p v) said → Denotes g p n → Memᴰ v (said_at g n said)
  said_there [] i d = elim i [ ]
  said_there (equals q r ∷ rest) (Memᴰ.head e) d = absurd (let z : ◌≡◌ {A = ℕ} 0 1 = cc in omega arith)
  said_there (equals q r ∷ rest) (Memᴰ.tail i) d = said_there rest i d
  said_there (apart q r ∷ rest) (Memᴰ.head e) d = absurd (let z : ◌≡◌ {A = ℕ} 0 1 = cc in omega arith)
  said_there (apart q r ∷ rest) (Memᴰ.tail i) d = said_there rest i d
  said_there {p} {v} (is q w ∷ rest) (Memᴰ.head e) d =
      let terms : p ≡ q = cc in
      let values : v ≡ w = cc in
      rw (denotes_at q (subst (λ (z : Term). Denotes g z n) terms d)) (Memᴰ.head values)
  said_there {p} {v} (is q w ∷ rest) (Memᴰ.tail i) d = by_test (said_there rest i d) (at_node n (reach g q))
    where
      by_test : Memᴰ v (said_at g n rest) → (b : Bool) → Memᴰ v (cond b (w ∷ said_at g n rest) (said_at g n rest))
      by_test k true = Memᴰ.tail k
      by_test k false = k

  -- and none but those
  pub said_by : {v : ℕ} (said : List Statement) → Memᴰ v (said_at g n said) → (p : Term) × Memᴰ (is p v) said × Denotes g p n
  said_by [] i = elim i [ ]
  said_by (equals q r ∷ rest) i = let h = said_by rest i in (h.0, Memᴰ.tail h.1, h.2)
  said_by (apart q r ∷ rest) i = let h = said_by rest i in (h.0, Memᴰ.tail h.1, h.2)
  said_by {v} (is q w ∷ rest) i = by_test (λ k. let h = said_by rest k in (h.0, Memᴰ.tail h.1, h.2)) (at_node n (reach g q)) refl i
    where
      by_test : (Memᴰ v (said_at g n rest) → (p : Term) × Memᴰ (is p v) (is q w ∷ rest) × Denotes g p n)
          → (b : Bool) → at_node n (reach g q) ≡ b → Memᴰ v (cond b (w ∷ said_at g n rest) (said_at g n rest)) → (p : Term) × Memᴰ (is p v) (is q w ∷ rest) × Denotes g p n
      by_test later true f (Memᴰ.head e) = (q, Memᴰ.head (ap {B = Statement} (λ (z : ℕ). is q z) e), at_denotes q f)
      by_test later true f (Memᴰ.tail k) = later k
      by_test later false f k = later k
