-- One class becomes part of another: the parts of the step put together, and what is counted.
use Rattle.std.proofs.Common.{◌≡◌, ℕ, zero, suc, ◌<◌, ◌≤◌, Bool, cond, eqb, ◌⊎◌, List, [], ◌∷◌, length, get_or, sym, refl, ap, ◌∙◌, subst, inl, inr, mul-one, arith, eq-eqb, ne_eqb}
use mathlib.Core.Option.{Option, some, or_else}
use mathlib.Core.List.Memᴰ
use Rattle.std.proofs.lemmas.Bool.{cases_eq}
use Rattle.kinds.specs.Meaning.{Meaning}
use Rattle.features.specs.Listing.{count}
use Rattle.features.proofs.Bytes.{count_more, count_same, count_constant}
use Rattle.growth.specs.Standing.{Meets}
use Rattle.joining.specs.declared.workspace.Pair.{Pair}
use Rattle.joining.specs.Uniting.{Takes, Relabels, representatives}
use Rattle.joining.specs.Workspaces.{Waits}

pub states_met : (m : Meaning) (a b r a' b' r' : Option ℕ) → a ≡ a' → b ≡ b' → r ≡ r' → Meets m (λ o. (o ≡ a) ⊎ (o ≡ b)) r → Meets m (λ o. (o ≡ a') ⊎ (o ≡ b')) r'
states_met m a b r a' b' r' e f d meets =
    subst (λ (z : Option ℕ). Meets m (λ o. (o ≡ z) ⊎ (o ≡ b')) r') e
    (subst (λ (z : Option ℕ). Meets m (λ o. (o ≡ a) ⊎ (o ≡ z)) r') f (subst (λ (z : Option ℕ). Meets m (λ o. (o ≡ a) ⊎ (o ≡ b)) z) d meets))

pub takes_from : (edge edge₁ edge' : ℕ → ℕ → Option ℕ) (W W' : ℕ → ℕ → Type 0) (to from : ℕ) → ((x a : ℕ) → edge₁ x a ≡ edge x a)
    → Takes edge₁ W to from edge' W' → Takes edge W to from edge' W'
takes_from edge edge₁ edge' W W' to from same takes = record {
  others = λ r c n. takes.others r c n ∙ same r c;
  merged = λ c. takes.merged c ∙ ap (λ (z : Option ℕ). or_else z (edge₁ from c)) (same to c) ∙ ap (or_else (edge to c)) (same from c);
  kept = takes.kept;
  owed = λ c u v e f. takes.owed c u v (same to c ∙ e) (same from c ∙ f);
  no_more = λ u v w. by_source u v (takes.no_more u v w);
}
  where
    by_source : (u v : ℕ) → W u v ⊎ ((c : ℕ) × (edge₁ to c ≡ some u) × (edge₁ from c ≡ some v)) → W u v ⊎ ((c : ℕ) × (edge to c ≡ some u) × (edge from c ≡ some v))
    by_source u v (inl w) = inl w
    by_source u v (inr (c, e, f)) = inr (c, sym (same to c) ∙ e, sym (same from c) ∙ f)

pub relabels_at : (n : ℕ) (xs xs₁ ys ys₁ : List ℕ) (to from : ℕ) → xs₁ ≡ xs → ys₁ ≡ ys → length xs₁ ≡ n
    → Relabels (length xs₁) (λ x. get_or xs₁ x 0) to from (λ x. get_or ys₁ x 0) → Relabels n (λ x. get_or xs x 0) to from (λ x. get_or ys x 0)
relabels_at n xs xs₁ ys ys₁ to from e f l relabels = record {
  moved = λ x h d. ap (λ (z : List ℕ). get_or z x 0) (sym f) ∙ relabels.moved x (omega arith) (ap (λ (z : List ℕ). get_or z x 0) e ∙ d);
  stayed = λ x h d.
      ap (λ (z : List ℕ). get_or z x 0) (sym f) ∙ relabels.stayed x (omega arith) (λ k. d (ap (λ (z : List ℕ). get_or z x 0) (sym e) ∙ k)) ∙ ap (λ (z : List ℕ). get_or z x 0) e;
}

pub relabels_fewer : (n k : ℕ) (rep rep' : ℕ → ℕ) (to from : ℕ) → k ≤ n → Relabels n rep to from rep' → Relabels k rep to from rep'
relabels_fewer n k rep rep' to from l relabels = record {
  moved = λ x h. relabels.moved x (omega arith);
  stayed = λ x h. relabels.stayed x (omega arith);
}

-- the pair that has waited longest, and the others
module _ (before after : List Pair) (p : Pair) (e : before ≡ p ∷ after) where
  pub first_waits : Waits before p.left p.right
  first_waits = subst (λ (z : List Pair). Waits z p.left p.right) (sym e) (Memᴰ.head refl)

  pub rest_waits : (x y : ℕ) → Waits after x y → Waits before x y
  rest_waits x y w = subst (λ (z : List Pair). Waits z x y) (sym e) (Memᴰ.tail w)

  pub first_or_rest : (x y : ℕ) → Waits before x y → Waits after x y ⊎ ((x ≡ p.left) × (y ≡ p.right))
  first_or_rest x y w = by_place (Memᴰ.cases_cons (subst (λ (z : List Pair). Waits z x y) e w))
    where
      by_place : (record { left = x; right = y } ≡ p) ⊎ Waits after x y → Waits after x y ⊎ ((x ≡ p.left) × (y ≡ p.right))
      by_place (inl d) = inr (ap (λ (z : Pair). z.left) d, ap (λ (z : Pair). z.right) d)
      by_place (inr i) = inl i

pub one_waits : (pairs : List Pair) (u v : ℕ) → pairs ≡ record { left = u; right = v } ∷ [] → (x y : ℕ) → Waits pairs x y → (x ≡ u) × (y ≡ v)
one_waits pairs u v e x y w = by_place (first_or_rest pairs [] (record { left = u; right = v }) e x y w)
  where
    by_place : Waits [] x y ⊎ ((x ≡ u) × (y ≡ v)) → (x ≡ u) × (y ≡ v)
    by_place (inl i) = absurd (Memᴰ.not-nil i)
    by_place (inr d) = d

pub none_waits : (pairs : List Pair) → pairs ≡ [] → (x y : ℕ) → Waits pairs x y → ⊥
none_waits pairs e x y w = Memᴰ.not-nil (subst (λ (z : List Pair). Waits z x y) e w)

-- a count falls by one where one number does
count_less : (f f' : ℕ → ℕ) (b n : ℕ) → b < n → f b ≡ suc (f' b) → ((x : ℕ) → (x ≡ b → ⊥) → x < n → f x ≡ f' x) → count f 0 n ≡ suc (count f' 0 n)
count_less f f' b zero l e same = absurd (omega arith)
count_less f f' b (suc n) l e same = by_place (cases_eq n b) (λ h. count_less f f' b n h e (λ x d k. same x d (omega arith)))
  where
    by_place : (n ≡ b) ⊎ (n ≡ b → ⊥) → (b < n → count f 0 n ≡ suc (count f' 0 n)) → count f 0 (suc n) ≡ suc (count f' 0 (suc n))
    by_place (inl d) fewer =
        let rest = count_same f f' 0 n (λ x low h. same x (omega arith) (omega arith)) in
        let here : f n ≡ suc (f' n) = subst (λ (z : ℕ). f z ≡ suc (f' z)) (sym d) e in
        omega (arith, count_more f n, count_more f' n)
    by_place (inr k) fewer =
        let rest = fewer (omega arith) in
        let here = same n k (omega arith) in
        omega (arith, count_more f n, count_more f' n)

count_at : (f : ℕ → ℕ) (b n : ℕ) → b < n → f b ≤ count f 0 n
count_at f b zero l = absurd (omega arith)
count_at f b (suc n) l = by_place (cases_eq n b) (λ h. count_at f b n h)
  where
    by_place : (n ≡ b) ⊎ (n ≡ b → ⊥) → (b < n → f b ≤ count f 0 n) → f b ≤ count f 0 (suc n)
    by_place (inl d) fewer = omega (arith, count_more f n, ap f d)
    by_place (inr k) fewer = omega (arith, count_more f n, fewer (omega arith))

-- 1 for a node that represents itself
abbrev own : (ℕ → ℕ) → ℕ → ℕ
own rep x = cond (eqb (rep x) x) 1 0

itself_one : (rep : ℕ → ℕ) (x : ℕ) → rep x ≡ x → own rep x ≡ 1
itself_one rep x e = ap (λ (b : Bool). cond {A = ℕ} b 1 0) (eq-eqb (rep x) x e)

other_none : (rep : ℕ → ℕ) (x : ℕ) → (rep x ≡ x → ⊥) → own rep x ≡ 0
other_none rep x n = ap (λ (b : Bool). cond {A = ℕ} b 1 0) (ne_eqb (rep x) x n)

pub all_represent : (rep : ℕ → ℕ) (n : ℕ) → ((x : ℕ) → x < n → rep x ≡ x) → representatives rep n ≡ n
all_represent rep n same = count_constant (own rep) 1 0 n (λ x l h. itself_one rep x (same x (omega arith))) ∙ mul-one n

pub some_represents : (rep : ℕ → ℕ) (n x : ℕ) → x < n → rep x ≡ x → 1 ≤ representatives rep n
some_represents rep n x l e = let h = count_at (own rep) x n l in omega (arith, itself_one rep x e)

-- a class that becomes part of another takes one representative away
pub one_less_represents : (n : ℕ) (rep rep' : ℕ → ℕ) (to from : ℕ) → from < n → rep to ≡ to → rep from ≡ from → (to ≡ from → ⊥)
    → Relabels n rep to from rep' → representatives rep n ≡ suc (representatives rep' n)
one_less_represents n rep rep' to from lf et ef two relabels =
    count_less (own rep) (own rep') from n lf
    (itself_one rep from ef ∙ ap suc (sym (other_none rep' from (λ e. two (sym (relabels.moved from lf ef) ∙ e)))))
    (λ x d l. by_class x d l (cases_eq (rep x) from))
  where
    by_class : (x : ℕ) → (x ≡ from → ⊥) → x < n → (rep x ≡ from) ⊎ (rep x ≡ from → ⊥) → own rep x ≡ own rep' x
    by_class x d l (inl e) =
        other_none rep x (λ h. d (sym h ∙ e)) ∙ sym (other_none rep' x (λ h. two (sym et ∙ ap rep (sym (relabels.moved x l e) ∙ h) ∙ e)))
    by_class x d l (inr k) = ap (λ (z : ℕ). cond {A = ℕ} (eqb z x) 1 0) (sym (relabels.stayed x l k))
