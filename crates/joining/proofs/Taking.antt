-- The attributes of one node pass to another, one after another.
use Rattle.std.proofs.Common.{◌≡◌, ℕ, ◌+◌, ◌<◌, ◌≤◌, Bool, true, false, ◌⊎◌, List, [], ◌∷◌, ◌++◌, length, set, sym, refl, ap, ◌∙◌, subst, ap₂, inl, inr, append-nil, arith, length-append, get_or-set_other, get_or-set_same}
use mathlib.Core.Option.{Option, some, none, or_else}
use mathlib.Core.List.Memᴰ
use lib.Count.{ones}
use Rattle.std.proofs.lemmas.Bool.{cases_eq, both_ways}
use Rattle.kinds.specs.Masks.{has}
use Rattle.kinds.specs.BitSets.{has_none}
use Rattle.tables.specs.Attributes.{Lowest, WithoutLowest}
use Rattle.tables.specs.declared.node.Node.{Node}
use Rattle.tables.specs.declared.table.Table.{Table}
use Rattle.tables.specs.Views.{row, blank}
use Rattle.tables.proofs.Walking.{same_target}
use Rattle.joining.specs.declared.workspace.Pair.{Pair}
use Rattle.joining.specs.Uniting.{clash, Takes, TakesOne}
use Rattle.joining.specs.Workspaces.{Waits, Edged}

or_none : (o : Option ℕ) → or_else o none ≡ o
unfolding or_else
or_none (some u) = refl
or_none none = refl

module _ (edge : ℕ → ℕ → Option ℕ) (pairs : List Pair) (to a v : ℕ) where
  -- the node has the attribute already
  pub takes_pair : (u : ℕ) (pairs' : List Pair) → edge to a ≡ some u → pairs' ≡ pairs ++ (record { left = u; right = v } ∷ []) → TakesOne edge pairs to a v edge pairs'
  unfolding or_else
  takes_pair u pairs' e p = record {
    others = λ r c n. refl;
    merged = e ∙ sym (ap (λ (z : Option ℕ). or_else z (some v)) e);
    waiting = p ∙ sym (ap (λ (z : Option ℕ). pairs ++ clash z v) e);
  }

  -- it has not
  pub takes_target : (edge' : ℕ → ℕ → Option ℕ) → edge to a ≡ none → edge' to a ≡ some v → ((r c : ℕ) → ((r ≡ to) → (c ≡ a) → ⊥) → edge' r c ≡ edge r c)
      → TakesOne edge pairs to a v edge' pairs
  unfolding or_else
  takes_target edge' e d others = record {
    others = others;
    merged = d ∙ sym (ap (λ (z : Option ℕ). or_else z (some v)) e);
    waiting = sym (ap (λ (z : Option ℕ). pairs ++ clash z v) e ∙ append-nil pairs);
  }

-- a row that was written
module _ (rows : List Node) (to : ℕ) (node : Node) (l : to < length rows) where
  pub row_there : row (set rows to node) to ≡ node
  row_there = get_or-set_same rows to node blank l

  -- what is read of a row is as it was, if it is so at the row that was written
  pub row_kept : {X : Type 0} (f : Node → X) (r : ℕ) → (r ≡ to → f node ≡ f (row rows to)) → f (row (set rows to node) r) ≡ f (row rows r)
  row_kept f r same = by_place (cases_eq r to)
    where
      by_place : (r ≡ to) ⊎ (r ≡ to → ⊥) → f (row (set rows to node) r) ≡ f (row rows r)
      by_place (inl d) = subst (λ (z : ℕ). f (row (set rows to node) z) ≡ f (row rows z)) (sym d) (ap f row_there ∙ same d)
      by_place (inr n) = ap f (get_or-set_other rows to r node blank n)

-- the attributes of `rest` have yet to pass
pub record Taking (rest : ℕ) (edge : ℕ → ℕ → Option ℕ) (W : ℕ → ℕ → Type 0) (to from : ℕ) (edge' : ℕ → ℕ → Option ℕ) (W' : ℕ → ℕ → Type 0) : Type 0 where
  pub others : (r c : ℕ) → (r ≡ to → ⊥) → edge' r c ≡ edge r c
  pub passed : (c : ℕ) → has rest c ≡ false → edge' to c ≡ or_else (edge to c) (edge from c)
  pub left : (c : ℕ) → has rest c ≡ true → edge' to c ≡ edge to c
  pub kept : (u v : ℕ) → W u v → W' u v
  pub owed : (c u v : ℕ) → has rest c ≡ false → edge to c ≡ some u → edge from c ≡ some v → W' u v
  pub no_more : (u v : ℕ) → W' u v → W u v ⊎ ((c : ℕ) × (edge to c ≡ some u) × (edge from c ≡ some v))

pub taking_begun : (edge : ℕ → ℕ → Option ℕ) (W : ℕ → ℕ → Type 0) (to from rest : ℕ) → ((c : ℕ) → has rest c ≡ false → edge from c ≡ none)
    → Taking rest edge W to from edge W
taking_begun edge W to from rest lacks = record {
  others = λ r c n. refl;
  passed = λ c e. sym (ap (or_else (edge to c)) (lacks c e) ∙ or_none (edge to c));
  left = λ c e. refl;
  kept = λ u v w. w;
  owed = λ c u v e f d. let z : none ≡ some v = sym (lacks c e) ∙ d in absurd (nothing z);
  no_more = λ u v w. inl w;
}
  where
    nothing : {v : ℕ} → none ≡ some v → ⊥
    nothing z = let k : ◌≡◌ {A = ℕ} 0 1 = cc in omega arith

pub taking_ended : (edge : ℕ → ℕ → Option ℕ) (W : ℕ → ℕ → Type 0) (to from rest : ℕ) (edge' : ℕ → ℕ → Option ℕ) (W' : ℕ → ℕ → Type 0) → rest ≡ 0
    → Taking rest edge W to from edge' W' → Takes edge W to from edge' W'
taking_ended edge W to from rest edge' W' e now =
    let empty : (c : ℕ) → has rest c ≡ false = λ c. ap (λ (z : ℕ). has z c) e ∙ has_none c in
    record {
      others = now.others;
      merged = λ c. now.passed c (empty c);
      kept = now.kept;
      owed = λ c u v. now.owed c u v (empty c);
      no_more = now.no_more;
    }

-- what waits after one attribute more
module _ (pairs pairs' : List Pair) (o : Option ℕ) (v : ℕ) (e : pairs' ≡ pairs ++ clash o v) where
  clash_kept : (x y : ℕ) → Waits pairs x y → Waits pairs' x y
  clash_kept x y w = subst (λ (z : List Pair). Waits z x y) (sym e) (Memᴰ.append_left (clash o v) w)

  clash_owed : (u : ℕ) → o ≡ some u → Waits pairs' u v
  clash_owed u f =
      subst (λ (z : List Pair). Waits z u v) (sym e) (Memᴰ.append_right pairs (subst (λ (z : Option ℕ). Waits (clash z v) u v) (sym f) (Memᴰ.head refl)))

  clash_only : (x y : ℕ) → Waits pairs' x y → Waits pairs x y ⊎ ((o ≡ some x) × (v ≡ y))
  clash_only x y w = by_part (Memᴰ.append_cases pairs (subst (λ (z : List Pair). Waits z x y) e w))
    where
      of_clash : (o : Option ℕ) → Waits (clash o v) x y → (o ≡ some x) × (v ≡ y)
      of_clash (some u) i = let d = Memᴰ.eq_of_singleton i in (ap (λ (z : Pair). some z.left) (sym d), ap (λ (z : Pair). z.right) (sym d))
      of_clash none i = absurd (Memᴰ.not-nil i)

      by_part : Waits pairs x y ⊎ Waits (clash o v) x y → Waits pairs x y ⊎ ((o ≡ some x) × (v ≡ y))
      by_part (inl i) = inl i
      by_part (inr i) = inr (of_clash o i)

  clash_length : length pairs' ≤ length pairs + 1
  clash_length = omega (arith, ap length e, length-append pairs (clash o v), short o)
    where
      short : (o : Option ℕ) → length (clash o v) ≤ 1
      short (some u) = omega arith
      short none = omega arith

module _ (edge : ℕ → ℕ → Option ℕ) (W : ℕ → ℕ → Type 0) (to from rest a v rest' : ℕ) (edge' : ℕ → ℕ → Option ℕ) (pairs : List Pair) (edge'' : ℕ → ℕ → Option ℕ) (pairs' : List Pair)
    (low : Lowest rest a) (without : WithoutLowest rest rest') (leads : edge from a ≡ some v)
    (now : Taking rest edge W to from edge' (Waits pairs)) (one : TakesOne edge' pairs to a v edge'' pairs') where
  to_same : edge' to a ≡ edge to a
  to_same = now.left a low.present

  unlike : (c : ℕ) → has rest' c ≡ true → c ≡ a → ⊥
  unlike c e d = both_ways (has rest' c) (ap (has rest') d ∙ without.gone a low) e

  old : (c : ℕ) (b : Bool) → (c ≡ a → ⊥) → has rest' c ≡ b → has rest c ≡ b
  old c b n e = sym (without.others a c low n) ∙ e

  pub taking_more : Taking rest' edge W to from edge'' (Waits pairs')
  taking_more = record {
    others = λ r c n. one.others r c (λ e _. n e) ∙ now.others r c n;
    passed = λ c e. passed c e (cases_eq c a);
    left = λ c e. one.others to c (λ _ d. unlike c e d) ∙ now.left c (old c true (unlike c e) e);
    kept = λ x y w. clash_kept pairs pairs' (edge' to a) v one.waiting x y (now.kept x y w);
    owed = λ c x y e f h. owed c x y e f h (cases_eq c a);
    no_more = λ x y w. source x y (clash_only pairs pairs' (edge' to a) v one.waiting x y w);
  }
    where
      passed : (c : ℕ) → has rest' c ≡ false → (c ≡ a) ⊎ (c ≡ a → ⊥) → edge'' to c ≡ or_else (edge to c) (edge from c)
      passed c e (inl d) = subst (λ (z : ℕ). edge'' to z ≡ or_else (edge to z) (edge from z)) (sym d) (one.merged ∙ ap₂ or_else to_same (sym leads))
      passed c e (inr n) = one.others to c (λ _ d. n d) ∙ now.passed c (old c false n e)

      owed : (c x y : ℕ) → has rest' c ≡ false → edge to c ≡ some x → edge from c ≡ some y → (c ≡ a) ⊎ (c ≡ a → ⊥) → Waits pairs' x y
      owed c x y e f h (inl d) =
          subst (λ (z : ℕ). Waits pairs' x z) (same_target (edge from a) v y leads (ap (edge from) (sym d) ∙ h))
          (clash_owed pairs pairs' (edge' to a) v one.waiting x (to_same ∙ ap (edge to) (sym d) ∙ f))
      owed c x y e f h (inr n) = clash_kept pairs pairs' (edge' to a) v one.waiting x y (now.owed c x y (old c false n e) f h)

      source : (x y : ℕ) → Waits pairs x y ⊎ ((edge' to a ≡ some x) × (v ≡ y)) → W x y ⊎ ((c : ℕ) × (edge to c ≡ some x) × (edge from c ≡ some y))
      source x y (inl w) = now.no_more x y w
      source x y (inr (e, f)) = inr (a, sym to_same ∙ e, leads ∙ ap some f)

  pub longer_by_one : length pairs' + ones rest' ≤ length pairs + ones rest
  longer_by_one = omega (arith, clash_length pairs pairs' (edge' to a) v one.waiting, without.fewer)

pub edged_same : (t : Table) → Edged t t
edged_same t = record { used = refl; room = refl; roots = refl; values = λ x. refl }

pub edged_then : (t u v : Table) → Edged t u → Edged u v → Edged t v
edged_then t u v e f = record { used = f.used ∙ e.used; room = f.room ∙ e.room; roots = f.roots ∙ e.roots; values = λ x. f.values x ∙ e.values x }
