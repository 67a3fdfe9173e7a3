-- Atoms keep the laws of a kind; what the values said in the table meet in.
use Rattle.std.proofs.Common.{◌≡◌, ℕ, ◌^◌, true, ◌||◌, eqb, ltb, ◌⊎◌, [], ◌∷◌, sym, refl, ap, ◌∙◌, subst, inl, inr, arith, lit<}
use Rattle.std.proofs.lemmas.Bool.{and_parts, and_from, or_cases, or_left, or_right, ltb-true, eqb-true, eq-eqb}
use Rattle.kinds.specs.Meaning.{Meaning, Lawful, Both, Greatest, GreatestOfAll}
use Rattle.kinds.specs.Meets.{Apart}
use Rattle.kinds.specs.Atoms.{is_atom, atoms}
use Rattle.kinds.specs.ValueSets.{value_sets}
use Rattle.kinds.proofs.Meets.{greatest_none, greatest_cons, apart_cons}
use Rattle.kinds.specs.LawfulSets.{sets_lawful, shared_greatest, shared_some}

-- an atom is at or below itself and 0 only
below_parts : (v w : ℕ) → atoms.below v w ≡ true → (is_atom v ≡ true) × ((v ≡ w) ⊎ (w ≡ 0))
below_parts v w h = let p = and_parts (is_atom v) (eqb v w || eqb w 0) h in (p.0, pick (or_cases (eqb v w) (eqb w 0) p.1))
  where
    pick : (eqb v w ≡ true) ⊎ (eqb w 0 ≡ true) → (v ≡ w) ⊎ (w ≡ 0)
    pick (inl e) = inl (eqb-true v w e)
    pick (inr e) = inr (eqb-true w 0 e)

below_itself : (v : ℕ) → is_atom v ≡ true → atoms.below v v ≡ true
below_itself v h = and_from (is_atom v) _ h (or_left (eqb v v) _ (eq-eqb v v refl))

below_zero : (v w : ℕ) → is_atom v ≡ true → w ≡ 0 → atoms.below v w ≡ true
below_zero v w h e = and_from (is_atom v) _ h (or_right (eqb v w) _ (eq-eqb w 0 e))

pub atoms_lawful : Lawful atoms
atoms_lawful = record {
  bounded = λ v h. omega (arith, ltb-true v (2 ^ 16) h);
  top_value = refl;
  under_top = λ v h. below_zero v 0 h refl;
  values = λ v w h. let p = below_parts v w h in (p.0, upper v w p.0 p.1);
  same = below_itself;
  trans = λ u v w h k. through u v w h (below_parts v w k).1;
  antisym = λ v w h k. equal v w (below_parts v w h).1 (below_parts w v k).1;
  leaf_value = λ v h. (and_parts (is_atom v) (ltb 0 v) h).0;
  leaf_below = λ v w leaf h. lower v w leaf (below_parts v w h).1;
  top_open = refl;
  meets = λ a b c both. common a b c both (below_parts c a both.0).1 (below_parts c b both.1).1;
}
  where
    upper : (v w : ℕ) → is_atom v ≡ true → (v ≡ w) ⊎ (w ≡ 0) → is_atom w ≡ true
    upper v w h (inl e) = ap is_atom (sym e) ∙ h
    upper v w h (inr e) = ap is_atom e

    through : (u v w : ℕ) → atoms.below u v ≡ true → (v ≡ w) ⊎ (w ≡ 0) → atoms.below u w ≡ true
    through u v w h (inl e) = subst (λ (z : ℕ). atoms.below u z ≡ true) e h
    through u v w h (inr e) = below_zero u w (below_parts u v h).0 e

    equal : (v w : ℕ) → (v ≡ w) ⊎ (w ≡ 0) → (w ≡ v) ⊎ (v ≡ 0) → v ≡ w
    equal v w (inl e) k = e
    equal v w (inr e) (inl f) = sym f
    equal v w (inr e) (inr f) = f ∙ sym e

    lower : (v w : ℕ) → atoms.leaf w ≡ true → (v ≡ w) ⊎ (w ≡ 0) → atoms.leaf v ≡ true
    lower v w h (inl e) = subst (λ (z : ℕ). atoms.leaf z ≡ true) (sym e) h
    lower v w h (inr e) = absurd (omega (arith, e, ltb-true 0 w (and_parts (is_atom w) (ltb 0 w) h).1))

    common : (a b c : ℕ) → Both atoms a b c → (c ≡ a) ⊎ (a ≡ 0) → (c ≡ b) ⊎ (b ≡ 0) → (d : ℕ) × Greatest atoms a b d
    common a b c both (inl e) k = (c, (both, λ x h. subst (λ (z : ℕ). atoms.below x z ≡ true) (sym e) h.0))
    common a b c both (inr e) (inl f) = (c, (both, λ x h. subst (λ (z : ℕ). atoms.below x z ≡ true) (sym f) h.1))
    common a b c both (inr e) (inr f) = (0, ((below_zero 0 a refl e, below_zero 0 b refl f), λ x h. below_zero x 0 (below_parts x a h.0).0 refl))

-- of no value the top, of one value that value
pub none_said : (m : Meaning) → Lawful m → GreatestOfAll m [] m.top
none_said m lawful = greatest_none m lawful m.top refl

pub one_said : (m : Meaning) → Lawful m → (v : ℕ) → m.value v ≡ true → GreatestOfAll m (v ∷ []) v
one_said m lawful v h = greatest_cons m lawful [] m.top v v (none_said m lawful) ((lawful.under_top v h, lawful.same v h), λ u both. both.1)

-- 5 and 6 are two leaves
pub five_six : Apart atoms (5 ∷ 6 ∷ [])
five_six = apart_cons atoms atoms_lawful (6 ∷ []) 6 5 (one_said atoms atoms_lawful 6 refl) (λ c both. neither c (below_parts c 6 both.0).1 (below_parts c 5 both.1).1)
  where
    neither : (c : ℕ) → (◌≡◌ {A = ℕ} c 6) ⊎ (◌≡◌ {A = ℕ} 6 0) → (◌≡◌ {A = ℕ} c 5) ⊎ (◌≡◌ {A = ℕ} 5 0) → ⊥
    neither c (inl e) (inl f) = omega arith
    neither c (inl e) (inr f) = omega arith
    neither c (inr e) k = omega arith

-- 3 and 6 share 2, and 3, 6 and 4 share nothing
pub three_six : GreatestOfAll value_sets (3 ∷ 6 ∷ []) 2
three_six = greatest_cons value_sets sets_lawful (6 ∷ []) 6 3 2 (one_said value_sets sets_lawful 6 refl) (shared_greatest 6 3 (lit< tt) (lit< tt) (lit< tt))

pub three_six_four : Apart value_sets (3 ∷ 6 ∷ 4 ∷ [])
three_six_four =
    apart_cons value_sets sets_lawful (6 ∷ 4 ∷ []) 4 3
    (greatest_cons value_sets sets_lawful (4 ∷ []) 4 6 4 (one_said value_sets sets_lawful 4 refl) (shared_greatest 4 6 (lit< tt) (lit< tt) (lit< tt)))
    (λ c both. omega (arith, shared_some 4 3 c both))
