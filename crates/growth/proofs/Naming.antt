-- The contradiction that comes first in the graph, in listing order, is the first that the statements have.
use mathlib.Core.Path.{◌≡◌, refl, subst}
use mathlib.Core.Logic.{◌↔◌}
use mathlib.Core.Option.{Option, some, none}
use mathlib.Core.List.{List, [], ◌∷◌}
use Prim.Native.Nat.{ℕ, zero, suc, ◌<◌}
use Rattle.kinds.specs.Meaning.{Meaning, Lawful}
use Rattle.features.specs.Terms.{Term, Statement, equals, is, apart, ◌▸◌}
use Rattle.features.specs.Graphs.{Graph, Denotes}
use Rattle.features.specs.Closing.{Joined, Valued}
use Rattle.features.specs.Order.{◌≺◌, Trail, InOrder}
use Rattle.features.specs.Clashes.{First, NoValue, LeafBranches, FirstAt, Nowhere, Broken, here, past}
use Rattle.features.proofs.Held.{trail_first, first_trail}
use Rattle.features.proofs.Paths.{some_same, some_not_none, leads_same, leads_more, leads_back}
use Rattle.features.proofs.TotalOrder.{Three, first, second, third, compare, not_both, never, trail_same}
use Rattle.growth.specs.Standing.{Shape, Judged, greatest, void}
use Rattle.growth.specs.Joins.{TrailsAreFirst, NamesNoValue, LeafAt, NamesLeafBranches, OneNode, ApartOnOne, NamesBroken}

module _ (m : Meaning) (h : Graph) (vars : ℕ) (said : List Statement) (shape : Shape h vars said) where
  trail_of_first : (t : Term) → First m vars said t → (k : ℕ) × Trail h k t
  trail_of_first t one =
      let d = shape.joined t t one.denotes in
      (d.0, first_trail m h vars said shape t d.0 d.1 one)

  module _ (ordered : InOrder h) (Fault : Term → Type 0) where
    -- the fault of the least node that has one is the first
    first_fault : (k : ℕ) (t : Term) → Trail h k t → Fault t → ((j : ℕ) (u : Term) → j < k → Denotes h u j → Fault u → ⊥) → FirstAt m vars said Fault t
    first_fault k t trail faulty none_below = record { trail = trail_first m h vars said shape t k trail; faulty = faulty; none_before = λ u one less bad. let r = trail_of_first u one in by_place u less bad r.0 r.1 (compare r.0 k) }
      where
        by_place : (u : Term) → u ≺ t → Fault u → (j : ℕ) → Trail h j u → Three (j < k) (j ≡ k) (k < j) → ⊥
        by_place u less bad j other (first l) = none_below j u l other.denotes bad
        by_place u less bad j other (second e) = never t (subst (λ (z : Term). z ≺ t) (trail_same h k u t (subst (λ (z : ℕ). Trail h z u) e other) trail) less)
        by_place u less bad j other (third l) = not_both u t less (ordered.rising k j t u l (shape.inside u j other.denotes) trail other)

  no_fault : (Fault : Term → Type 0) → ((j : ℕ) (u : Term) → j < h.nodes → Denotes h u j → Fault u → ⊥) → Nowhere m vars said Fault
  no_fault Fault none-there t one bad = let r = trail_of_first t one in none-there r.0 t (shape.inside t r.0 r.1.denotes) r.1.denotes bad

  one_node : (p q : Term) → Joined vars said p q ↔ OneNode h p q
  one_node p q = (shape.joined p q, λ d. shape.nothing_else p q d.0 d.1 d.2)

  broken_one : {kept : List Statement} {i : ℕ} → Broken m vars said kept i → ApartOnOne h kept i
  broken_one (here {p = p} {q = q} j) = shape.joined p q j
  broken_one (past b) = broken_one b

  one_broken : (kept : List Statement) (i : ℕ) → ApartOnOne h kept i → Broken m vars said kept i
  one_broken [] i a = absurd a
  one_broken (z ∷ rest) (suc i) a = past (one_broken rest i a)
  one_broken (equals p q ∷ rest) zero a = absurd a
  one_broken (is p v ∷ rest) zero a = absurd a
  one_broken (apart p q ∷ rest) zero a = here ((one_node p q).1 a)

pub trails_are_first : TrailsAreFirst
trails_are_first m h vars said shape t = (λ r. trail_first m h vars said shape t r.0 r.1, trail_of_first m h vars said shape t)

pub names_broken : NamesBroken
names_broken m h vars said shape = (one_node m h vars said shape, λ kept i. (broken_one m h vars said shape, one_broken m h vars said shape kept i))

module _ (m : Meaning) (vars : ℕ) (said : List Statement) (p : Term) where
  -- nothing stands exactly where there is no value
  none_no_value : {o : Option ℕ} → Judged m vars said p o → (o ≡ none) ↔ NoValue m vars said p
  none_no_value (greatest {v = v} valued) = (λ e. absurd (some_not_none refl e), λ nothing. absurd (nothing v valued.0))
  none_no_value (void nothing) = (λ e. nothing, λ also. refl)

  some_valued : {o : Option ℕ} (v : ℕ) → Judged m vars said p o → o ≡ some v → Valued m vars said p v
  some_valued v (greatest {v = w} valued) e = subst (λ (z : ℕ). Valued m vars said p z) (some_same refl e) valued
  some_valued v (void nothing) e = absurd (some_not_none e refl)

  valued_some : Lawful m → {o : Option ℕ} (v : ℕ) → Judged m vars said p o → Valued m vars said p v → o ≡ some v
  valued_some lawful v (greatest {v = w} valued) also = let same : w ≡ v = lawful.antisym w v (also.1 w valued.0) (valued.1 v also.0) in cc
  valued_some lawful v (void nothing) also = absurd (nothing v also.0)

pub names_no_value : NamesNoValue
names_no_value m h state vars said ordered stands = (named, nowhere)
  where
    empty : (j : ℕ) (u : Term) → Denotes h u j → (state j ≡ none) ↔ NoValue m vars said u
    empty j u d = none_no_value m vars said u (stands.judged u j d)

    named : (k : ℕ) (t : Term) → state k ≡ none → ((j : ℕ) → j < k → state j ≡ none → ⊥) → Trail h k t → FirstAt m vars said (NoValue m vars said) t
    named k t e none_below trail =
        first_fault m h vars said stands.shape ordered (NoValue m vars said) k t trail ((empty k t trail.denotes).0 e) (λ j u l d bad. none_below j l ((empty j u d).1 bad))

    nowhere : ((k : ℕ) → k < h.nodes → state k ≡ none → ⊥) → Nowhere m vars said (NoValue m vars said)
    nowhere none-there = no_fault m h vars said stands.shape (NoValue m vars said) (λ j u l d bad. none-there j l ((empty j u d).1 bad))

pub names_leaf_branches : NamesLeafBranches
names_leaf_branches m h state vars said lawful ordered stands = (named, nowhere)
  where
    leaf_branches : (j : ℕ) (u : Term) → Denotes h u j → LeafAt m h state j → LeafBranches m vars said u
    leaf_branches j u d (v, a, i, e, leaf, edge) =
        let da : Denotes h (u ▸ a) i = (d.0, leads_more d.1 edge) in
        (v, a, some_valued m vars said u v (stands.judged u j d) e, leaf, stands.shape.nothing_else (u ▸ a) (u ▸ a) i da da)

    leaf_at : (j : ℕ) (u : Term) → Denotes h u j → LeafBranches m vars said u → LeafAt m h state j
    leaf_at j u d (v, a, valued, leaf, joined) =
        let da = stands.shape.joined (u ▸ a) (u ▸ a) joined in
        let b = leads_back u.path da.1.1 in
        (v, a, da.0, valued_some m vars said u lawful v (stands.judged u j d) valued, leaf, subst (λ (z : ℕ). h.edge z a ≡ some da.0) (leads_same b.1 d.1) b.2)

    named : (k : ℕ) (t : Term) → LeafAt m h state k → ((j : ℕ) → j < k → LeafAt m h state j → ⊥) → Trail h k t → FirstAt m vars said (LeafBranches m vars said) t
    named k t at-k none_below trail =
        first_fault m h vars said stands.shape ordered (LeafBranches m vars said) k t trail (leaf_branches k t trail.denotes at-k) (λ j u l d bad. none_below j l (leaf_at j u d bad))

    nowhere : ((k : ℕ) → k < h.nodes → LeafAt m h state k → ⊥) → Nowhere m vars said (LeafBranches m vars said)
    nowhere none-there = no_fault m h vars said stands.shape (LeafBranches m vars said) (λ j u l d bad. none-there j l (leaf_at j u d bad))
