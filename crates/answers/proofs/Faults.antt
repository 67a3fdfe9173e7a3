-- Where nothing is at fault, terms are such that no call refuses them.
use Rattle.std.proofs.Common.{◌≡◌, ℕ, suc, Bool, true, false, cond, ltb, leb, List, [], ◌∷◌, length, refl, arith}
use mathlib.Core.Option.{Option, some, none}
use Rattle.std.proofs.lemmas.Bool.{ltb-true, ltb-false, leb-true}
use Rattle.features.specs.Terms.{Term}
use Rattle.features.specs.Holding.{Sound, Small, end, also}
use Rattle.answers.specs.declared.refusal.Side.{Side}
use Rattle.answers.specs.declared.refusal.Refusal.{Refusal}
use Rattle.answers.specs.Answers.{first_refusal, above_31, term_fault, pair_fault}

-- neither the first of two faults, nor the second
pub none_first : (a b : Option Refusal) → first_refusal a b ≡ none → (a ≡ none) × (b ≡ none)
none_first none b e = (refl, e)
none_first (some r) b e = absurd (let z : ◌≡◌ {A = ℕ} 0 1 = cc in omega arith)

pub passed : (b : Bool) (r : Refusal) → cond b none (some r) ≡ none → b ≡ true
passed true r e = refl
passed false r e = absurd (let z : ◌≡◌ {A = ℕ} 0 1 = cc in omega arith)

not_failed : (b : Bool) (r : Refusal) (o : Option Refusal) → cond b (some r) o ≡ none → (b ≡ false) × (o ≡ none)
not_failed true r o e = absurd (let z : ◌≡◌ {A = ℕ} 0 1 = cc in omega arith)
not_failed false r o e = (refl, e)

-- without a fault attributes are small
none_above : (side : Side) (at : ℕ) (xs : List ℕ) → above_31 side at xs ≡ none → Small xs
none_above side at [] e = end
none_above side at (a ∷ rest) e =
    let p = not_failed (ltb 31 a) _ (above_31 side (suc at) rest) e in
    also (omega (arith, ltb-false 31 a p.0)) (none_above side (suc at) rest p.1)

-- and the term is one that no call refuses
pub faultless_sound : (vars : ℕ) (side : Side) (t : Term) → term_fault vars side t ≡ none → Sound vars t
faultless_sound vars side t e =
    let a = none_first _ _ e in
    let b = none_first _ _ a.1 in
    record {
      declared = ltb-true t.var vars (passed (ltb t.var vars) _ a.0);
      short = leb-true (length t.path) 8 (passed (leb (length t.path) 8) _ b.0);
      small = none_above side 0 t.path b.1;
    }

pub faultless_pair : (vars : ℕ) (p q : Term) → pair_fault vars p q ≡ none → Sound vars p × Sound vars q
faultless_pair vars p q e = let both = none_first _ _ e in (faultless_sound vars Side.Left p both.0, faultless_sound vars Side.Right q both.1)
