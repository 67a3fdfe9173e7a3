-- Closing: joined terms agree on all that came, and only the set of statements matters.
use Rattle.std.proofs.Common.{◌≡◌, ℕ, suc, ◌<◌, List, [], ◌∷◌, ◌++◌, sym, refl, subst, arith}
use mathlib.Core.List.{Memᴰ}
use Rattle.std.specs.List.{AllByRecursion}
use Rattle.kinds.specs.Meaning.{Meaning}
use Rattle.features.specs.Terms.{Term, Statement, equals, is, apart, ◌▸◌}
use Rattle.features.specs.Closing.{Joined, variable, stated, given, turned, chained, begun, beneath, Came, top, said_of, Under, Valued}
use Rattle.features.specs.Holding.{aparts_of, Small, end, also, Proper}
use Rattle.features.specs.Clashes.{Broken}
use Rattle.features.specs.Clashes

-- what holds of each element holds of a member
pub every_member : {X : Type 0} (P : X → Type 0) (xs : List X) → AllByRecursion P xs → (x : X) → Memᴰ x xs → P x
every_member P [] h x i = elim i [ ]
every_member P (y ∷ xs) h x (Memᴰ.head e) = subst P (sym e) h.0
every_member P (y ∷ xs) h x (Memᴰ.tail i) = every_member P xs h.1 x i

module _ (m : Meaning) (vars : ℕ) (said : List Statement) where
  -- joined terms have the same values at or below all that came
  pub came_along : {p q : Term} {w : ℕ} → Joined vars said p q → Came m vars said p w → Came m vars said q w
  came_along j top = top
  came_along {p} {q} j (said_of r v i k) = said_of r v i (chained q p r (turned p q j) k)

  pub under_along : {p q : Term} (v : ℕ) → Joined vars said p q → Under m vars said p v → Under m vars said q v
  under_along {p} {q} v j under w came = under w (came_along (turned p q j) came)

  pub valued_along : {p q : Term} (v : ℕ) → Joined vars said p q → Valued m vars said p v → Valued m vars said q v
  valued_along {p} {q} v j valued = (under_along v j valued.0, λ u under. valued.1 u (under_along u (turned p q j) under))

small_last : (xs : List ℕ) {a : ℕ} → Small (xs ++ (a ∷ [])) → a < 32
small_last [] (also h r) = h
small_last (x ∷ xs) (also h r) = small_last xs r

small_front : (xs : List ℕ) (a : ℕ) → Small (xs ++ (a ∷ [])) → Small xs
small_front [] a s = end
small_front (x ∷ xs) a (also h r) = also h (small_front xs a r)

small_more : {xs : List ℕ} {a : ℕ} → Small xs → a < 32 → Small (xs ++ (a ∷ []))
small_more end h = also h end
small_more (also g s) h = also g (small_more s h)

module _ (m : Meaning) (vars : ℕ) (said : List Statement) (proper : (s : Statement) → Memᴰ s said → Proper m vars s) where
  -- terms that denote have small attributes
  pub joined_small : {p q : Term} → Joined vars said p q → Small p.path × Small q.path
  joined_small (variable x h) = (end, end)
  joined_small (stated p q i) = let h = proper (equals p q) i in (h.0.small, h.1.small)
  joined_small (given p v i) = let h = proper (is p v) i in (h.0.small, h.0.small)
  joined_small (turned p q j) = let h = joined_small j in (h.1, h.0)
  joined_small (chained p q r j k) = ((joined_small j).0, (joined_small k).1)
  joined_small (begun p q a j) = let h = small_front p.path a (joined_small j).0 in (h, h)
  joined_small (beneath p q a j k) =
      let h = (joined_small k).0 in
      (h, small_more (joined_small j).1 (small_last p.path h))

  pub attribute_small : (p : Term) (a : ℕ) → Joined vars said (p ▸ a) (p ▸ a) → a < 32
  attribute_small p a j = small_last p.path (joined_small j).0

-- the aparts of a list are its members that are aparts
pub apart_kept : {p q : Term} (said : List Statement) → Memᴰ (apart p q) said → Memᴰ (apart p q) (aparts_of said)
apart_kept [] (i) = i
apart_kept (equals r s ∷ rest) (Memᴰ.head e) = absurd (let z : ◌≡◌ {A = ℕ} 0 1 = cc in omega arith)
apart_kept (equals r s ∷ rest) (Memᴰ.tail i) = apart_kept rest i
apart_kept (is r v ∷ rest) (Memᴰ.head e) = absurd (let z : ◌≡◌ {A = ℕ} 0 1 = cc in omega arith)
apart_kept (is r v ∷ rest) (Memᴰ.tail i) = apart_kept rest i
apart_kept (apart r s ∷ rest) (Memᴰ.head e) = Memᴰ.head e
apart_kept (apart r s ∷ rest) (Memᴰ.tail i) = Memᴰ.tail (apart_kept rest i)

pub apart_said : {p q : Term} (said : List Statement) → Memᴰ (apart p q) (aparts_of said) → Memᴰ (apart p q) said
apart_said [] i = i
apart_said (equals r s ∷ rest) i = Memᴰ.tail (apart_said rest i)
apart_said (is r v ∷ rest) i = Memᴰ.tail (apart_said rest i)
apart_said (apart r s ∷ rest) (Memᴰ.head e) = Memᴰ.head e
apart_said (apart r s ∷ rest) (Memᴰ.tail i) = Memᴰ.tail (apart_said rest i)

module _ (m : Meaning) (vars : ℕ) (said : List Statement) where
  -- an apart of one node stands at some place
  pub broken_at : {p q : Term} {kept : List Statement} → Joined vars said p q → Memᴰ (apart p q) kept → (j : ℕ) × Broken m vars said kept j
  broken_at j (Memᴰ.head {xs = rest} e) = (0, subst (λ (z : Statement). Broken m vars said (z ∷ rest) 0) e (Clashes.here j))
  broken_at j (Memᴰ.tail i) = let r = broken_at j i in (suc r.0, Clashes.past r.1)

  -- and what stands there is an apart of one node
  pub broken_is : {kept : List Statement} {j : ℕ} → Broken m vars said kept j → (p : Term) × (q : Term) × Memᴰ (apart p q) kept × Joined vars said p q
  broken_is (Clashes.here {p = p} {q = q} j) = (p, q, Memᴰ.head refl, j)
  broken_is (Clashes.past b) = let r = broken_is b in (r.0, r.1, Memᴰ.tail r.2, r.3)
