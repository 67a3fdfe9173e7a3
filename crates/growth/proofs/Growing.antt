-- A path grown says that it is there, and nothing else.
use mathlib.Core.Path.{◌≡◌, refl, sym, subst, ◌∙◌}
use mathlib.Core.Option.{Option}
use mathlib.Core.List.{List, [], ◌∷◌, ◌++◌, append-nil, append_assoc}
use Prim.Native.Nat.{ℕ, ◌<◌}
use native.Mathlib.Omega.{arith}
use Rattle.kinds.specs.Meaning.{Meaning, Lawful}
use Rattle.features.specs.Terms.{Term, Statement, equals, is, only, ◌▸◌}
use Rattle.features.specs.Graphs.{Graph, here, Denotes}
use Rattle.features.specs.Closing.{Joined, chained, turned, begun, top}
use Rattle.features.proofs.Paths.{leads_more}
use Rattle.growth.specs.Standing.{Stands}
use Rattle.growth.specs.Changes.{Grown, ends, follows, adds}
use Rattle.growth.specs.Theorems.{◌▹◌, mentioning, GrownTo}
use Rattle.growth.proofs.Redundant.{following_added, following_dropped, last_follows}
use Rattle.growth.proofs.Branching.{new_node_stands}

followed_by_none : (p : Term) → p ▹ [] ≡ p
followed_by_none p = let e = append-nil p.path in λ i. record { var = p.var; path = e i }

followed_on : (p : Term) (a : ℕ) (rest : List ℕ) → (p ▸ a) ▹ rest ≡ p ▹ (a ∷ rest)
followed_on p a rest = let e = append_assoc p.path (a ∷ []) rest in λ i. record { var = p.var; path = e i }

-- the beginning of a term that is there is there
beginning_there : (vars : ℕ) (said : List Statement) (path : List ℕ) (p : Term) → Joined vars said (p ▹ path) (p ▹ path) → Joined vars said p p
beginning_there vars said [] p j = subst (λ (z : Term). Joined vars said z z) (followed_by_none p) j
beginning_there vars said (a ∷ rest) p j =
    begun p (p ▸ a) a (beginning_there vars said rest (p ▸ a) (subst (λ (z : Term). Joined vars said z z) (sym (followed_on p a rest)) j))

module _ (m : Meaning) (lawful : Lawful m) (vars : ℕ) where
  pub grown_to : {g h : Graph} {state state' : ℕ → Option ℕ} {n e : ℕ} {path : List ℕ} → Grown m.top g state n path h state' e → (said : List Statement) (p : Term) → Stands m g state vars said → Denotes g p n → GrownTo m g h state' vars said (p ▹ path) e
  grown_to {g} {h} {state} {state'} {n} ends said p stands d =
      subst (λ (z : Term). GrownTo m g g state vars said z n) (sym (followed_by_none p)) (record {
        stands = following_added m vars g state said (is p m.top) (stands.shape.nothing_else p p n d d, top) stands;
        ends_there = d;
        keeps = λ q k e. e;
        vars_same = refl;
      })
  grown_to {g} {h} {state} {state'} {n} {e} (follows {a = a} {rest = rest} edge grown) said p stands d =
      subst (λ (z : Term). GrownTo m g h state' vars said z e) (followed_on p a rest) (grown_to grown said (p ▸ a) stands (d.0, leads_more d.1 edge))
  grown_to {g} {h} {state} {state'} {n} {e} (adds {f = f} {between = between} {a = a} {rest = rest} new grown) said p stands d =
      let one = new_node_stands m lawful g f state between vars said p n a stands d new in
      let kept = one.1 p n d in
      let r = grown_to grown (mentioning m said (p ▸ a)) (p ▸ a) one.0 (kept.0, leads_more kept.1 new.leads) in
      let t : Term = (p ▸ a) ▹ rest in
      let there = (last_follows m vars said (is t m.top)).0 in
      subst (λ (z : Term). GrownTo m g h state' vars said z e) (followed_on p a rest) (record {
        stands = following_dropped m vars h state' said (is (p ▸ a) m.top) (is t m.top) (beginning_there vars (mentioning m said t) rest (p ▸ a) there, top) r.stands;
        ends_there = r.ends_there;
        keeps = λ q k e. r.keeps q k (one.1 q k e);
        vars_same = r.vars_same ∙ new.vars;
      })

  -- the variable's root is where a term begins
  pub grown_from_root : {g h : Graph} {state state' : ℕ → Option ℕ} {e : ℕ} (said : List Statement) (p : Term) → Stands m g state vars said → p.var < vars → Grown m.top g state (g.root p.var) p.path h state' e → GrownTo m g h state' vars said p e
  grown_from_root said p stands lt grown = grown_to grown said (only p.var) stands (omega (arith, lt, stands.shape.all), here)

  pub pair_grown : (g f h : Graph) (state between state' : ℕ → Option ℕ) (said : List Statement) (p q : Term) (s t : ℕ) → Stands m g state vars said → p.var < vars → q.var < vars → Grown m.top g state (g.root p.var) p.path f between s → Grown m.top f between (f.root q.var) q.path h state' t → GrownTo m g h state' vars (mentioning m said p) q t × Denotes h p s
  pair_grown g f h state between state' said p q s t stands x y first second =
      let a = grown_from_root said p stands x first in
      let b = grown_from_root (mentioning m said p) q a.stands y second in
      (record { stands = b.stands; ends_there = b.ends_there; keeps = λ r k d. b.keeps r k (a.keeps r k d); vars_same = b.vars_same ∙ a.vars_same }, b.keeps p s a.ends_there)

module _ (m : Meaning) (g : Graph) (state : ℕ → Option ℕ) (vars : ℕ) (said : List Statement) (p : Term) where
  pub equation_mentions : (q : Term) → Stands m g state vars (mentioning m (mentioning m said p) q ++ (equals p q ∷ [])) → Stands m g state vars (said ++ (equals p q ∷ []))
  equation_mentions q stands =
      let inner : Joined vars (mentioning m said p ++ (equals p q ∷ [])) p q = last_follows m vars (mentioning m said p) (equals p q) in
      let outer : Joined vars (said ++ (equals p q ∷ [])) p q = last_follows m vars said (equals p q) in
      following_dropped m vars g state said (is p m.top) (equals p q) (chained p q p outer (turned p q outer), top)
      (following_dropped m vars g state (mentioning m said p) (is q m.top) (equals p q) (chained q p q (turned p q inner) inner, top) stands)

  pub value_mentions : (v : ℕ) → Stands m g state vars (mentioning m said p ++ (is p v ∷ [])) → Stands m g state vars (said ++ (is p v ∷ []))
  value_mentions v stands = following_dropped m vars g state said (is p m.top) (is p v) ((last_follows m vars said (is p v)).0, top) stands
