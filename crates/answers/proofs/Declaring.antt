-- One variable more joins nothing but itself, and so brings no clash.
use Rattle.std.proofs.Common.{◌≡◌, ℕ, suc, ◌<◌, true, ◌⊎◌, List, [], ◌∷◌, length, sym, refl, ap, subst, inl, inr, arith, length-append}
use mathlib.Core.List.{Memᴰ}
use Rattle.kinds.specs.Meaning.{Meaning, Lawful}
use Rattle.features.specs.Terms.{Term, Statement, equals, is, apart, only, ◌▸◌}
use Rattle.features.specs.Closing.{Joined, variable, stated, given, turned, chained, begun, beneath, Came, top, said_of, Valued}
use Rattle.features.specs.Holding.{Proper}
use Rattle.features.specs.Clashes.{First, NoValue, LeafBranches}
use Rattle.features.specs.Theorems.{NoClash}
use Rattle.features.proofs.TotalOrder.{Three, first, second, third, compare}
use Rattle.features.proofs.Closure.{apart_said, broken_is}
use Rattle.features.proofs.General.{kept_whole}
use Rattle.answers.specs.Theorems.{DeclaringNeverClashes}

-- what is joined stays joined
pub joined_more : {vars : ℕ} {said : List Statement} {p q : Term} → Joined vars said p q → Joined (suc vars) said p q
joined_more (variable x h) = variable x (omega arith)
joined_more (stated p q i) = stated p q i
joined_more (given p v i) = given p v i
joined_more (turned p q j) = turned p q (joined_more j)
joined_more (chained p q r j k) = chained p q r (joined_more j) (joined_more k)
joined_more (begun p q a j) = begun p q a (joined_more j)
joined_more (beneath p q a j k) = beneath p q a (joined_more j) (joined_more k)

module _ (m : Meaning) (vars : ℕ) (said : List Statement) (proper : (s : Statement) → Memᴰ s said → Proper m vars s) where
  -- joined terms begin with declared variables
  pub joined_declared : {p q : Term} → Joined vars said p q → (p.var < vars) × (q.var < vars)
  joined_declared (variable x h) = (h, h)
  joined_declared (stated p q i) = let h = proper (equals p q) i in (h.0.declared, h.1.declared)
  joined_declared (given p v i) = let h = proper (is p v) i in (h.0.declared, h.0.declared)
  joined_declared (turned p q j) = let h = joined_declared j in (h.1, h.0)
  joined_declared (chained p q r j k) = ((joined_declared j).0, (joined_declared k).1)
  joined_declared (begun p q a j) = let h = (joined_declared j).0 in (h, h)
  joined_declared (beneath p q a j k) = joined_declared j

  -- both terms are the new variable
  abbrev Fresh : Term → Term → Type 0
  Fresh p q = (p ≡ only vars) × (q ≡ only vars)

  not_fresh : (t : Term) → t.var < vars → t ≡ only vars → ⊥
  not_fresh t l e = let same : t.var ≡ vars = ap (λ (z : Term). z.var) e in omega arith

  no_path : (p : Term) (a : ℕ) → p ▸ a ≡ only vars → ⊥
  no_path p a e = let size = ap (λ (z : Term). length z.path) e in omega (arith, length-append p.path (a ∷ []), size)

  fresh_or_old : {p q : Term} → Joined (suc vars) said p q → Joined vars said p q ⊎ Fresh p q
  fresh_or_old (variable x h) = pick (compare x vars)
    where
      pick : Three (x < vars) (x ≡ vars) (vars < x) → Joined vars said (only x) (only x) ⊎ Fresh (only x) (only x)
      pick (first l) = inl (variable x l)
      pick (second e) = inr (ap only e, ap only e)
      pick (third l) = absurd (omega arith)
  fresh_or_old (stated p q i) = inl (stated p q i)
  fresh_or_old (given p v i) = inl (given p v i)
  fresh_or_old (turned p q j) = pick (fresh_or_old j)
    where
      pick : Joined vars said p q ⊎ Fresh p q → Joined vars said q p ⊎ Fresh q p
      pick (inl j) = inl (turned p q j)
      pick (inr e) = inr (e.1, e.0)
  fresh_or_old (chained p q r j k) = pick (fresh_or_old j) (fresh_or_old k)
    where
      pick : Joined vars said p q ⊎ Fresh p q → Joined vars said q r ⊎ Fresh q r → Joined vars said p r ⊎ Fresh p r
      pick (inl j) (inl k) = inl (chained p q r j k)
      pick (inl j) (inr e) = absurd (not_fresh q (joined_declared j).1 e.0)
      pick (inr e) (inl k) = absurd (not_fresh q (joined_declared k).0 e.1)
      pick (inr e) (inr f) = inr (e.0, f.1)
  fresh_or_old (begun p q a j) = pick (fresh_or_old j)
    where
      pick : Joined vars said (p ▸ a) q ⊎ Fresh (p ▸ a) q → Joined vars said p p ⊎ Fresh p p
      pick (inl j) = inl (begun p q a j)
      pick (inr e) = absurd (no_path p a e.0)
  fresh_or_old (beneath p q a j k) = pick (fresh_or_old j) (fresh_or_old k)
    where
      pick : Joined vars said p q ⊎ Fresh p q → Joined vars said (p ▸ a) (p ▸ a) ⊎ Fresh (p ▸ a) (p ▸ a) → Joined vars said (p ▸ a) (q ▸ a) ⊎ Fresh (p ▸ a) (q ▸ a)
      pick (inl j) (inl k) = inl (beneath p q a j k)
      pick (inr e) (inl k) = absurd (not_fresh p (joined_declared k).0 e.0)
      pick j (inr e) = absurd (no_path p a e.0)

  -- a declared variable's terms are joined with no others than before
  pub joined_before : {p q : Term} → p.var < vars → Joined (suc vars) said p q → Joined vars said p q
  joined_before {p} {q} l j = pick (fresh_or_old j)
    where
      pick : Joined vars said p q ⊎ Fresh p q → Joined vars said p q
      pick (inl j) = j
      pick (inr e) = absurd (not_fresh p l e.0)

  attribute_before : (t : Term) (a : ℕ) → Joined (suc vars) said (t ▸ a) (t ▸ a) → Joined vars said (t ▸ a) (t ▸ a)
  attribute_before t a j = pick (fresh_or_old j)
    where
      pick : Joined vars said (t ▸ a) (t ▸ a) ⊎ Fresh (t ▸ a) (t ▸ a) → Joined vars said (t ▸ a) (t ▸ a)
      pick (inl j) = j
      pick (inr e) = absurd (no_path t a e.0)

  came_more : {p : Term} {v : ℕ} → Came m vars said p v → Came m (suc vars) said p v
  came_more top = top
  came_more (said_of q v i j) = said_of q v i (joined_more j)

  came_before : {p : Term} {v : ℕ} → p.var < vars → Came m (suc vars) said p v → Came m vars said p v
  came_before l top = top
  came_before l (said_of q v i j) = said_of q v i (joined_before l j)

  valued_before : (p : Term) (v : ℕ) → p.var < vars → Valued m (suc vars) said p v → Valued m vars said p v
  valued_before p v l valued = (λ w came. valued.0 w (came_more came), λ u under. valued.1 u (λ w came. under w (came_before l came)))

  leaf_branches_before : (t : Term) → LeafBranches m (suc vars) said t → LeafBranches m vars said t
  leaf_branches_before t (v, a, valued, leaf, j) =
      let k = attribute_before t a j in
      (v, a, valued_before t v (joined_declared k).0 valued, leaf, k)

  first_before : (t : Term) → t.var < vars → First m (suc vars) said t → First m vars said t
  first_before t l f = record { denotes = joined_before l f.denotes; least = λ p j before. f.least p (joined_more j) before }

  -- nothing but the top came to the new variable
  fresh_came : (t : Term) (w : ℕ) → t ≡ only vars → Came m (suc vars) said t w → w ≡ m.top
  fresh_came t w new top = refl
  fresh_came t w new (said_of q v i j) = pick (fresh_or_old j)
    where
      pick : Joined vars said t q ⊎ Fresh t q → w ≡ m.top
      pick (inl k) = absurd (not_fresh t (joined_declared k).0 new)
      pick (inr e) = absurd (not_fresh q (proper (is q v) i).0.declared e.1)

  value_after : Lawful m → NoClash m vars said → (t : Term) → First m (suc vars) said t → NoValue m (suc vars) said t → ⊥
  value_after lawful free t f nothing = pick (fresh_or_old f.denotes)
    where
      pick : Joined vars said t t ⊎ Fresh t t → ⊥
      pick (inl j) = let l = (joined_declared j).0 in free.valued t (first_before t l f) (λ v under. nothing v (λ w came. under w (came_before l came)))
      pick (inr e) = nothing m.top (λ w came. subst (λ (z : ℕ). m.below m.top z ≡ true) (sym (fresh_came t w e.0 came)) (lawful.same m.top lawful.top_value))

pub no_clash_declared : DeclaringNeverClashes
no_clash_declared m lawful g kept vars said holds free = record {
  valued = value_after m vars said holds.proper lawful free;
  leaves_bare = λ t f branches.
      let old = leaf_branches_before m vars said holds.proper t branches in
      free.leaves_bare t (first_before m vars said holds.proper t (joined_declared m vars said holds.proper old.4).0 f) old;
  aparts_kept = λ i broken.
      let b = broken_is m (suc vars) said broken in
      let among = apart_said said b.2 in
      kept_whole m vars said free.aparts_kept b.0 b.1 among (joined_before m vars said holds.proper (holds.proper (apart b.0 b.1) among).0.declared b.3);
}
